use Rattle.std.proofs.Common.{◌≡◌, ◌∙◌, ◌++◌, [], map, ap, sym, append-nil}
use Rattle.document_index.specs.Seen.{document_of}
use Rattle.document_index.proofs.LocatedLemmas.{map-through, no_items}
use Rattle.document_sources.specs.Given.{document_by}
use Rattle.document_sources.specs.Seen.{given_of, layer_of}
use Rattle.document_sources.specs.declared.document.Document.{Document}
use Rattle.document_retrieval.proofs.given.with_drafts.Goals as goal

pub returns : goal.returns
returns c =
    let it = c.loop-document.document-iterator in
    let found = map document_of c.loop-document.documents.items in
    let items = c.args.given.items in
    let f = λ (g : Document). document_by (layer_of c.args.layer) (given_of g) in
    let empty : it.rest.items ≡ [] = no_items it.rest.items (sym it.rest.ok.0 ∙ c.in-None.ensures.steps.0) in
    let begun : c.into_iter-document-iterator.result.rest.items ≡ items = c.into_iter-document-iterator.ensures.into_iter_gives.0 in
    sym (append-nil found) ∙ ap (λ xs. found ++ map f xs) (sym empty) ∙ c.loop-document.invariant ∙ ap (λ xs. map document_of xs ++ map f c.into_iter-document-iterator.result.rest.items) c.new-documents.ensures.items ∙ ap (map f) begun ∙ sym (map-through (document_by (layer_of c.args.layer)) given_of items)
