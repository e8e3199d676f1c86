use Rattle.std.proofs.Common.{◌≡◌, ◌++◌, map}
use Rattle.std.specs.Vec.Iter.{into_iter_items}
use Rattle.document_index.specs.Seen.{document_of}
use Rattle.document_sources.specs.Given.{document_by}
use Rattle.document_sources.specs.Seen.{given_of, layer_of}
use Rattle.document_retrieval.proofs.given.with_drafts.Given as goal

abbrev pub invariant-loop-document : goal.invariant-loop-document
invariant-loop-document l =
    map document_of l.documents.items ++ map (λ g. document_by (layer_of l.layer) (given_of g)) (into_iter_items l.document-iterator)
    ≡ map document_of l.initial.documents.items ++ map (λ g. document_by (layer_of l.layer) (given_of g)) (into_iter_items l.initial.document-iterator)
