use Rattle.std.proofs.Common.{◌≡◌, ◌||◌, ℕ, List, drop}
use Rattle.std.specs.BTreeSet.{contains_by}
use Rattle.serde_json.specs.Data.{string}
use Rattle.serde_json.specs.View.{items_view}
use Rattle.json_values.specs.Equality.{is_among}
use Rattle.compiled_keywords.specs.Options.{beside}
use Rattle.compiled_keywords.proofs.options.texts_of.Given as goal

abbrev pub invariant-loop-value : goal.invariant-loop-value
invariant-loop-value l = (text : List ℕ) → (contains_by (beside text) l.texts || is_among (string text) (items_view (drop l.value-index l.list))) ≡ is_among (string text) (items_view l.list)
