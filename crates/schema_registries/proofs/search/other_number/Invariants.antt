use Rattle.std.proofs.Common.{◌≡◌, false, Some, reverse}
use Rattle.serde_json.specs.Data.{depth}
use Rattle.serde_json.specs.View.{view}
use Rattle.json_values.specs.Pointers.{value_at}
use Rattle.schema_registries.specs.Whole.{only_whole}
use Rattle.schema_registries.proofs.search.other_number.Given as goal

abbrev pub invariant-loop-value : goal.invariant-loop-value
invariant-loop-value l = record {
  leads : value_at (reverse l.path) (view l.document) ≡ Some (view l.value);
  not_whole : only_whole (view l.value) ≡ false;
}

abbrev pub decreases-loop-value : goal.decreases-loop-value
decreases-loop-value l = depth (view l.value)
