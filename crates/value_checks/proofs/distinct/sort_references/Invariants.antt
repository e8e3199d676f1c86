use Rattle.std.proofs.Common.{◌≡◌, drop, take}
use Rattle.serde_json.specs.View.{items_view}
use Rattle.json_values.specs.Rising.{items_rise}
use Rattle.value_checks.specs.Sorts.{values_of}
use Rattle.value_checks.proofs.distinct.sort_references.Given as goal

abbrev pub invariant-loop-value : goal.invariant-loop-value
invariant-loop-value l = record {
  gathered : values_of l.references.items ≡ take l.value-index l.values;
  rise : items_rise (items_view l.values) ≡ items_rise (items_view (drop l.value-index l.values));
}
