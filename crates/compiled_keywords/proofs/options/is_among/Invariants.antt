use Rattle.std.proofs.Common.{◌≡◌, drop}
use Rattle.serde_json.specs.View.{view, items_view}
use Rattle.json_values.specs.Equality.{is_among}
use Rattle.compiled_keywords.proofs.options.is_among.Given as goal

abbrev pub invariant-loop-option : goal.invariant-loop-option
invariant-loop-option l = is_among (view l.value) (items_view l.options) ≡ is_among (view l.value) (items_view (drop l.option-index l.options))
