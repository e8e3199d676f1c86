use Rattle.std.proofs.Common.{◌≡◌, ap, map, drop, arith}
use Rattle.std.proofs.lemmas.List.{drop_all}
use Rattle.schema_definitions.specs.Bearers.{how_many}
use Rattle.document_index.specs.Seen.{document_of}
use Rattle.document_index.proofs.counting.how_many.Goals as goal

pub returns : goal.returns
returns c =
    let ds = c.args.documents.now in
    let rest : how_many (map document_of (drop c.loop-document.document-index ds)) ≡ 0 =
    ap (λ l. how_many (map document_of l)) (drop_all c.loop-document.document-index ds c.loop-document-test.false) in
    (omega (arith, c.loop-document.invariant.counted, c.loop-document.invariant.fits, rest), omega (arith, c.loop-document.invariant.counted, rest))
