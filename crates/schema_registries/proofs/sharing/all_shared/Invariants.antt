use Rattle.std.proofs.Common.{◌≡◌, ◌++◌, map, drop}
use Rattle.document_index.specs.Seen.{document_of}
use Rattle.document_sources.specs.Given.{documents_by}
use Rattle.document_sources.specs.Seen.{given_of, layer_of}
use Rattle.schema_registries.proofs.sharing.all_shared.Given as goal

-- the documents that were shared, and those that are left
abbrev pub invariant-loop-document : goal.invariant-loop-document
invariant-loop-document l =
    map document_of l.all.items ++ documents_by (layer_of l.layer) (map given_of (drop l.document-index l.documents)) ≡ documents_by (layer_of l.layer) (map given_of l.documents)
