use Rattle.std.proofs.Common.{◌≡◌}
use Rattle.std.specs.List.{list_any}
use Rattle.serde_json.specs.View.{members_view}
use Rattle.json_values.specs.Patterns.{matched}
use Rattle.schema_definitions.specs.Rows.{member_names}
use Rattle.schema_patterns.specs.Read.{reads}
use Rattle.applicators.proofs.declared.is_matched_by_some.Given as goal

abbrev pub invariant-loop-pattern : goal.invariant-loop-pattern
invariant-loop-pattern l = list_any (λ p. matched (reads l.matches) p l.name) (member_names (members_view l.patterns.entries))
    ≡ list_any (λ p. matched (reads l.matches) p l.name) (member_names (members_view l.pattern-iterator))
