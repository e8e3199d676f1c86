use Rattle.std.proofs.Common.{◌≡◌, suc, map}
use Rattle.schema_definitions.specs.Bearers.{Documents}
use Rattle.schema_definitions.specs.DocumentCauses.{awaited_cause, how_many_await}
use Rattle.document_index.specs.Awaited.{AwaitedIn}
use Rattle.document_index.specs.Seen.{standing_of}
use Rattle.document_index.proofs.awaited.awaited_cause.Given as goal

abbrev pub invariant-loop-awaited : goal.invariant-loop-awaited
invariant-loop-awaited l =
    (docs : Documents) → AwaitedIn docs (map standing_of l.standings)
    → awaited_cause docs (suc l.left) l.awaited ≡ awaited_cause docs (suc (how_many_await docs)) l.fn.uri

abbrev pub decreases-loop-awaited : goal.decreases-loop-awaited
decreases-loop-awaited l = l.left
