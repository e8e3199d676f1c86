use Rattle.std.proofs.Common.{List, [], ◌∷◌}
use Rattle.serde_json.specs.View.{members_view}
use Rattle.json_values.specs.Parts.{name}
use Rattle.schema_definitions.specs.Rows.{member_names}
use Rattle.reached_sites.specs.Patterns.{Puts}
use Rattle.reached_sites.specs.Places.{place_in}
use Rattle.reached_sites.specs.declared.pattern.Pattern.{Pattern}
use Rattle.reached_sites.proofs.pattern.push_names.Given as goal

abbrev pub invariant-loop-name : goal.invariant-loop-name
invariant-loop-name l =
    (fin : List Pattern)
    → Puts (place_in l.place) (λ p. name p ∷ []) (member_names (members_view l.name-iterator)) l.patterns.items fin
    → Puts (place_in l.place) (λ p. name p ∷ []) (member_names (members_view l.fn.schemas.entries)) l.fn.patterns.items fin
