use Rattle.std.proofs.Common.{◌≡◌, drop}
use Rattle.serde_json.specs.View.{items_view, members_view}
use Rattle.json_values.specs.Equality.{are_trees}
use Rattle.schema_registries.specs.Whole.{items_only_whole, members_only_whole}
use Rattle.schema_registries.proofs.Trees.{values_are_trees}
use Rattle.schema_registries.proofs.numbers.+whole.Given as goal

abbrev pub invariant-have_items_whole-loop-item : goal.invariant-have_items_whole-loop-item
invariant-have_items_whole-loop-item l = record {
  whole : items_only_whole (items_view l.items) ≡ items_only_whole (items_view (drop l.item-index l.items));
  trees : are_trees (items_view l.items) ≡ are_trees (items_view (drop l.item-index l.items));
}

abbrev pub invariant-have_members_whole-loop-member : goal.invariant-have_members_whole-loop-member
invariant-have_members_whole-loop-member l = record {
  whole : members_only_whole (members_view l.members.entries) ≡ members_only_whole (members_view l.member-iterator);
  trees : values_are_trees (members_view l.members.entries) ≡ values_are_trees (members_view l.member-iterator);
}
