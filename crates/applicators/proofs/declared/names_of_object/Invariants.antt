use Rattle.std.proofs.Common.{◌≡◌, ◌++◌, map, string_bytes}
use Rattle.serde_json.specs.View.{members_view}
use Rattle.schema_meaning.specs.Questions.{listed_members}
use Rattle.schema_patterns.specs.Read.{reads}
use Rattle.applicators.specs.Shapes.{declared_by, others_among}
use Rattle.applicators.proofs.declared.names_of_object.Given as goal

abbrev pub invariant-loop-name : goal.invariant-loop-name
invariant-loop-name l = map (λ m. m.0) (others_among (reads l.matches) (declared_by l.declared) (listed_members (members_view l.members.entries)))
    ≡ map string_bytes l.names.items ++ map (λ m. m.0) (others_among (reads l.matches) (declared_by l.declared) (listed_members (members_view l.name-iterator)))
