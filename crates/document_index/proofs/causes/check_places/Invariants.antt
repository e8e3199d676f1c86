use Rattle.std.proofs.Common.{◌≡◌, map, drop}
use Rattle.std.specs.List.{flat_map}
use Rattle.schema_definitions.specs.Bearers.{Documents}
use Rattle.document_index.specs.Seen.{standing_of}
use Rattle.document_index.specs.Awaited.{AwaitedIn}
use Rattle.document_index.specs.Checked.{borne_in, unknown_by, causes_at}
use Rattle.document_index.proofs.causes.check_places.Given as goal

-- the places that were passed have no cause
abbrev pub invariant-loop-standing : goal.invariant-loop-standing
invariant-loop-standing l = (docs : Documents) → AwaitedIn docs (map standing_of l.standings)
    → flat_map (causes_at (borne_in l.index) (unknown_by docs)) (map standing_of l.standings) ≡ flat_map (causes_at (borne_in l.index) (unknown_by docs)) (map standing_of (drop l.standing-index l.standings))
