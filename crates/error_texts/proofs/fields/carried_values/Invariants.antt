use Rattle.std.proofs.Common.{◌≡◌, ◌++◌, map, drop}
use Rattle.serde_json.specs.View.{view}
use Rattle.error_texts.specs.Fields.{carried}
use Rattle.error_texts.proofs.fields.carried_values.Given as goal

abbrev pub invariant-loop-error : goal.invariant-loop-error
invariant-loop-error l = map view l.values.items ++ map carried (drop l.error-index l.errors) ≡ map carried l.errors
