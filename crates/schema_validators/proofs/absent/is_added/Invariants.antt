use Rattle.std.proofs.Common.{◌≡◌, drop, map}
use Rattle.document_index.specs.Seen.{document_of}
use Rattle.schema_definitions.specs.Rounds.{is_added}
use Rattle.schema_validators.proofs.absent.is_added.Given as goal

abbrev pub invariant-loop-document : goal.invariant-loop-document
invariant-loop-document l = is_added (map document_of l.documents) l.uri ≡ is_added (map document_of (drop l.document-index l.documents)) l.uri
