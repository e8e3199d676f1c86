use Rattle.std.proofs.Common.{◌≡◌}
use Rattle.serde_json.specs.View.{members_view}
use Rattle.schema_places.specs.Plain.{has_core_name}
use Rattle.schema_places.proofs.plain.has_core_name.Given as goal

abbrev pub invariant-loop-name : goal.invariant-loop-name
invariant-loop-name l = has_core_name (members_view l.members.entries) ≡ has_core_name (members_view l.name-iterator)
