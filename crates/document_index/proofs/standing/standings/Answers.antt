use Rattle.std.proofs.Common.{◌≡◌, ◌∙◌, ◌++◌, ◌∷◌, [], ◌+◌, map, take, length, ap, sym, arith}
use Rattle.std.proofs.lemmas.List.{take_more, take_all, map-append, length-take-le, length-map}
use Rattle.schema_dialects.specs.Dialects.{dialects_in}
use Rattle.document_index.specs.Located.{Located, located_standings, standings_at}
use Rattle.document_index.specs.Seen.{document_of, located_of}
use Rattle.document_index.proofs.LocatedLemmas.{map-through, located-push, standings-located}
use Rattle.document_index.proofs.standing.standings.Goals as goal

pub loop-position-init : goal.loop-position-init
unfolding located_standings
loop-position-init c = ap (map located_of) c.new-found.ensures.items

pub loop-position-preserved : goal.loop-position-preserved
loop-position-preserved c =
    let meta = dialects_in c.args.known.now in
    let i = c.loop-position.position in
    let ds = c.args.documents.now in
    let d = c.index-documents-position.result in
    let more : map document_of (take (i + 1) ds) ≡ map document_of (take i ds) ++ document_of d ∷ [] =
    ap (map document_of) (take_more ds i d c.loop-position-test.true ∙ ap (λ x. take i ds ++ x ∷ []) (sym c.index-documents-position.is)) ∙ map-append document_of (take i ds) (d ∷ []) in
    let at : length (map document_of (take i ds)) ≡ i = length-map (take i ds) document_of ∙ length-take-le i ds (omega arith) in
    c.in_ok-push_standings.ensures
    ∙ ap (λ l. l ++ standings_at meta (i, document_of d)) c.loop-position.invariant
    ∙ ap (λ n. located_standings meta (map document_of (take i ds)) ++ standings_at meta (n, document_of d)) (sym at)
    ∙ sym (located-push meta (map document_of (take i ds)) (document_of d))
    ∙ sym (ap (located_standings meta) more)

pub returns-clause-stand : goal.returns-clause-stand
returns-clause-stand c =
    let meta = dialects_in c.args.known.now in
    let ds = c.args.documents.now in
    sym (map-through (λ (l : Located). l.standing) located_of c.loop-position.found.items)
    ∙ ap (map (λ (l : Located). l.standing)) (c.loop-position.invariant ∙ ap (λ l. located_standings meta (map document_of l)) (take_all c.loop-position.position ds c.loop-position-test.false))
    ∙ standings-located meta (map document_of ds)
