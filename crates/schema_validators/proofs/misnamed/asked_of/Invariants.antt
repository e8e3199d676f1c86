use Rattle.std.proofs.Common.{map}
use Rattle.std.specs.List.{All}
use Rattle.schema_definitions.specs.Bearers.{Documents}
use Rattle.document_index.specs.Awaited.{AwaitedIn}
use Rattle.document_index.specs.Seen.{standing_of}
use Rattle.schema_validators.specs.Misnamed.{IsAskedIn}
use Rattle.schema_validators.proofs.misnamed.asked_of.Given as goal

abbrev pub invariant-loop-standing : goal.invariant-loop-standing
invariant-loop-standing l = (docs : Documents) → AwaitedIn docs (map standing_of l.standings) → All (IsAskedIn docs) l.asked.items
