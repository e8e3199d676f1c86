use Rattle.std.proofs.Common.{◌≡◌, ◌++◌, map, drop}
use Rattle.serde_json.specs.View.{view}
use Rattle.error_texts.specs.Fields.{branch_data}
use Rattle.error_texts.proofs.fields.branch_values.Given as goal

abbrev pub invariant-loop-errors : goal.invariant-loop-errors
invariant-loop-errors l = map view l.values.items ++ map branch_data (drop l.errors-index l.branches) ≡ map branch_data l.branches
