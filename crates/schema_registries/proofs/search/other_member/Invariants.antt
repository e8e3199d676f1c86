use Rattle.serde_json.specs.View.{members_view}
use Rattle.schema_registries.proofs.Nearer.{Left}
use Rattle.schema_registries.proofs.search.other_member.Given as goal

abbrev pub invariant-loop-name : goal.invariant-loop-name
invariant-loop-name l = Left (members_view l.name-iterator) (members_view l.members.entries)
