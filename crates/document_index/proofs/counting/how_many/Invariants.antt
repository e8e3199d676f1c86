use Rattle.std.proofs.Common.{◌≡◌, ◌<◌, ◌^◌, ◌+◌, map, drop}
use Rattle.schema_definitions.specs.Bearers.{how_many}
use Rattle.document_index.specs.Seen.{document_of}
use Rattle.document_index.proofs.counting.how_many.Given as goal

abbrev pub invariant-loop-document : goal.invariant-loop-document
invariant-loop-document l = record { fits : l.count < 2 ^ 64; counted : how_many (map document_of l.documents) ≡ l.count + how_many (map document_of (drop l.document-index l.documents)) }
