use Rattle.std.proofs.Common.{◌≡◌, max, map, drop}
use Rattle.document_index.specs.Seen.{document_of}
use Rattle.document_retrieval.specs.Layers.{layer_above}
use Rattle.document_retrieval.proofs.layers.layer_above.Given as goal

-- the number above those that were met, and that above those that are left
abbrev pub invariant-loop-document : goal.invariant-loop-document
invariant-loop-document l = max l.above (layer_above (map document_of (drop l.document-index l.documents))) ≡ layer_above (map document_of l.documents)
