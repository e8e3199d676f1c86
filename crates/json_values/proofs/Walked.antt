-- A value is walked: its maps have their names in order.
use Rattle.std.proofs.Common.{◌≡◌, List, [], ◌∷◌, true, nat_cmp, refl, ap, string_bytes}
use Rattle.std.specs.Cmp.Lexicographic.{slice_cmp}
use Rattle.std.specs.List.Sorted.{IsStrictlySortedBy}
use Rattle.std.specs.Map.{keys_of}
use Rattle.std.specs.Ordering.{is_lt}
use Rattle.std.specs.String.{string_cmp}
use Rattle.serde_json.proofs.Views.{Entry}
use Rattle.serde_json.specs.View.{members_view}
use Rattle.json_values.specs.Equality.{rises_from}
use Rattle.json_values.proofs.Names.{both}
use Rattle.json_values.specs.Rising.{are_rising}

-- a map's entries rise
pub entries_rise : (es : List Entry) → IsStrictlySortedBy string_cmp (keys_of es) → are_rising (members_view es) ≡ true
unfolding IsStrictlySortedBy
entries_rise [] h = refl
entries_rise (e ∷ []) h = refl
entries_rise (e ∷ f ∷ es) h =
    both (is_lt (slice_cmp nat_cmp (string_bytes e.0) (string_bytes f.0))) (rises_from (string_bytes f.0) (members_view es)) (ap is_lt h.0.0) (entries_rise (f ∷ es) h.1)
