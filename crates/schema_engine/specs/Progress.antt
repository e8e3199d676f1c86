-- The references in progress at a place.
use Rattle.std.specs.Prelude.{ℕ, zero, suc, nat_le, List, [], ◌∷◌, Bool, false, ◌&&◌, ◌||◌, ◌==◌}
use Rattle.std.specs.List.{filter}
use Rattle.schema_meaning.specs.Cut.{one_unless}
use Rattle.schema_engine.specs.declared.progress.Progress.{Progress, Nothing, Target'}

abbrev pub is_between : ℕ → ℕ → ℕ → Bool
is_between lowest highest n = nat_le lowest n && nat_le n highest

-- the last one first; those outside the bounds are none
abbrev pub numbers_in : Progress → List ℕ
numbers_in Nothing = []
numbers_in (Target' node lowest highest p before) = filter (is_between lowest highest) (node ∷ numbers_in before)

abbrev pub is_among : ℕ → List ℕ → Bool
is_among n [] = false
is_among n (m ∷ ms) = n == m || is_among n ms

-- how many numbers below a bound are not in progress
abbrev pub left_below : ℕ → List ℕ → ℕ
left_below zero ms = 0
left_below (suc n) ms = one_unless (is_among n ms) (left_below n ms)
