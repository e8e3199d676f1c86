-- Names in the order of their bytes, each once.
use Rattle.std.specs.Prelude.{ℕ, List, [], ◌∷◌, Bool, true, ◌&&◌}
use Rattle.std.specs.Cmp.Lexicographic.{slice_cmp}
use Rattle.std.specs.Ordering.{is_lt, nat_cmp}

-- each is less than the one behind it
abbrev pub rise_behind : List ℕ → List (List ℕ) → Bool
rise_behind k [] = true
rise_behind k (n ∷ ns) = is_lt (slice_cmp nat_cmp k n) && rise_behind n ns

abbrev pub names_rise : List (List ℕ) → Bool
names_rise [] = true
names_rise (n ∷ ns) = rise_behind n ns
