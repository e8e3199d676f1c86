use Rattle.std.proofs.Common.{◌≡◌, drop}
use Rattle.serde_json.specs.View.{items_view, members_view}
use Rattle.json_values.specs.Rising.{items_rise, members_rise}
use Rattle.value_checks.proofs.rising.+names.Given as goal

abbrev pub invariant-items_rise-loop-item : goal.invariant-items_rise-loop-item
invariant-items_rise-loop-item l = items_rise (items_view l.items) ≡ items_rise (items_view (drop l.item-index l.items))

abbrev pub invariant-members_rise-loop-member : goal.invariant-members_rise-loop-member
invariant-members_rise-loop-member l = members_rise (members_view l.members.entries) ≡ members_rise (members_view l.member-iterator)
