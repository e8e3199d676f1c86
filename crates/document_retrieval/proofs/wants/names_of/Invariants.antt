use Rattle.std.proofs.Common.{◌≡◌, ℕ, List, map, take, bytes_eq}
use Rattle.std.specs.List.{list_any}
use Rattle.document_index.specs.Seen.{document_of}
use Rattle.document_retrieval.specs.Known.{has_name}
use Rattle.document_retrieval.proofs.wants.names_of.Given as goal

abbrev pub invariant-loop-document : goal.invariant-loop-document
invariant-loop-document l = (q : List ℕ) → has_name l.names q ≡ list_any (λ d. bytes_eq d.uri q) (map document_of (take l.document-index l.documents))
