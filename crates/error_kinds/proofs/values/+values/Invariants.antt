use Rattle.std.proofs.Common.{◌≡◌, drop}
use Rattle.error_kinds.specs.Values.{same_items, same_members}
use Rattle.serde_json.specs.View.{items_view, members_view}
use Rattle.error_kinds.proofs.values.+values.Given as goal

abbrev pub invariant-same_values-loop-index : goal.invariant-same_values-loop-index
invariant-same_values-loop-index l = same_items (items_view l.ones) (items_view l.others) ≡ same_items (items_view (drop l.index l.ones)) (items_view (drop l.index l.others))

abbrev pub invariant-same_members-loop-name : goal.invariant-same_members-loop-name
invariant-same_members-loop-name l = same_members (members_view l.ones.entries) (members_view l.others.entries) ≡ same_members (members_view l.name-iterator) (members_view l.rest)
