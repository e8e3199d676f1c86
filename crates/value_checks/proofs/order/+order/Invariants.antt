use Rattle.std.proofs.Common.{◌≡◌, ◌≤◌, drop, length}
use Rattle.serde_json.specs.View.{items_view, members_view}
use Rattle.value_checks.specs.Order.{items_order, members_order}
use Rattle.value_checks.proofs.order.+order.Given as goal

abbrev pub invariant-compare_items-loop-index : goal.invariant-compare_items-loop-index
invariant-compare_items-loop-index l = record {
  within : l.index ≤ length l.others;
  same : items_order (items_view l.ones) (items_view l.others) ≡ items_order (items_view (drop l.index l.ones)) (items_view (drop l.index l.others));
}

abbrev pub invariant-compare_members-loop-name : goal.invariant-compare_members-loop-name
invariant-compare_members-loop-name l = members_order (members_view l.ones.entries) (members_view l.others.entries) ≡ members_order (members_view l.name-iterator) (members_view l.rest)
