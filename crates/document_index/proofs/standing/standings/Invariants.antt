use Rattle.std.proofs.Common.{◌≡◌, map, take}
use Rattle.schema_dialects.specs.Dialects.{dialects_in}
use Rattle.document_index.specs.Located.{located_standings}
use Rattle.document_index.specs.Seen.{document_of, located_of}
use Rattle.document_index.proofs.standing.standings.Given as goal

abbrev pub invariant-loop-position : goal.invariant-loop-position
invariant-loop-position l = map located_of l.found.items ≡ located_standings (dialects_in l.known) (map document_of (take l.position l.documents))
