-- The texts among some values.
use Rattle.std.specs.Prelude.{◌≡◌, ℕ, List, String, string_bytes}
use Rattle.std.specs.declared.alloc.Global.{Global}
use Rattle.std.specs.BTreeSet.{BTreeSet, contains_by}
use Rattle.std.specs.Cmp.Lexicographic.{slice_cmp}
use Rattle.std.specs.Ordering.{nat_cmp}
use Rattle.std.specs.declared.cmp.Ordering.{Ordering}
use Rattle.serde_json.specs.Data.{string}
use Rattle.serde_json.specs.View.{items_view}
use Rattle.serde_json.specs.declared.value.Value.{Value}
use Rattle.json_values.specs.Equality.{is_among}

-- the order of a text and one that is kept
abbrev pub beside : List ℕ → String Global → Ordering
beside text kept = slice_cmp nat_cmp text (string_bytes kept)

-- a text is in the set just where it equals one of the values
abbrev pub AreTexts : BTreeSet (String Global) → List Value → Type 0
AreTexts set values = (text : List ℕ) → contains_by (beside text) set ≡ is_among (string text) (items_view values)
