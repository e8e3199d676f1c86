use Rattle.std.proofs.Common.{◌≡◌, drop}
use Rattle.serde_json.specs.View.{items_view}
use Rattle.applicator_reading.specs.Others.{first_other_item}
use Rattle.applicator_reading.proofs.entries.other_item.Given as goal

abbrev pub invariant-loop-index : goal.invariant-loop-index
invariant-loop-index l = first_other_item 0 (items_view l.items) ≡ first_other_item l.index (items_view (drop l.index l.items))
