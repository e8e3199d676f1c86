use Rattle.std.proofs.Common.{◌≡◌, false, drop}
use Rattle.serde_json.specs.View.{items_view}
use Rattle.schema_registries.specs.Whole.{items_only_whole}
use Rattle.schema_registries.proofs.search.other_item.Given as goal

abbrev pub invariant-loop-position : goal.invariant-loop-position
invariant-loop-position l = items_only_whole (items_view (drop l.position l.items)) ≡ false
