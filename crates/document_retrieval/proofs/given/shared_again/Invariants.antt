use Rattle.std.proofs.Common.{◌≡◌, ◌++◌, map, drop}
use Rattle.document_index.specs.Seen.{document_of}
use Rattle.document_retrieval.proofs.given.shared_again.Given as goal

-- the documents that were shared, and those that are left
abbrev pub invariant-loop-document : goal.invariant-loop-document
invariant-loop-document l = map document_of l.all.items ++ map document_of (drop l.document-index l.documents) ≡ map document_of l.documents
