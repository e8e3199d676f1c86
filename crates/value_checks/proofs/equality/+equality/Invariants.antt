use Rattle.std.proofs.Common.{◌≡◌, drop, length}
use Rattle.json_values.specs.Equality.{equal_items}
use Rattle.value_checks.proofs.Walked.{in_step}
use Rattle.serde_json.specs.View.{items_view, members_view}
use Rattle.value_checks.proofs.equality.+equality.Given as goal

abbrev pub invariant-equal_items-loop-index : goal.invariant-equal_items-loop-index
invariant-equal_items-loop-index l = equal_items (items_view l.ones) (items_view l.others) ≡ equal_items (items_view (drop l.index l.ones)) (items_view (drop l.index l.others))

abbrev pub invariant-equal_members-loop-name : goal.invariant-equal_members-loop-name
invariant-equal_members-loop-name l = record {
  long : length l.name-iterator ≡ length l.rest;
  same : in_step (members_view l.ones.entries) (members_view l.others.entries) ≡ in_step (members_view l.name-iterator) (members_view l.rest);
}
