use Rattle.std.proofs.Common.{◌≡◌, ◌++◌, map, drop}
use Rattle.document_index.specs.Seen.{document_of}
use Rattle.document_sources.specs.Given.{documents_by}
use Rattle.document_sources.specs.Seen.{given_of, layer_of}
use Rattle.schema_validators.proofs.absent.in_layer.Given as goal

-- the documents of the layer, and those that are left
abbrev pub invariant-loop-document : goal.invariant-loop-document
invariant-loop-document l =
    map document_of l.documents.items ++ documents_by (layer_of l.layer) (map given_of (drop l.document-index l.given)) ≡ documents_by (layer_of l.layer) (map given_of l.given)
