-- Values in the order of values.
use Rattle.std.specs.Prelude.{◌≡◌, List, [], ◌∷◌, map, Bool, true, false, ◌||◌}
use Rattle.std.specs.Borrow.{Bor}
use Rattle.std.specs.Ordering.{is_lt}
use Rattle.std.specs.List.Sorted.{IsPermutation, IsSortedBy}
use Rattle.serde_json.specs.declared.value.Value.{Value}
use Rattle.serde_json.specs.View.{view, items_view}
use Rattle.json_values.specs.Equality.{equal}
use Rattle.json_values.specs.Rising.{items_rise}
use Rattle.value_checks.specs.Order.{order}

-- the first comes before the second
abbrev pub is_before : Value → Value → Bool
is_before v w = is_lt (order (view v) (view w))

abbrev pub values_of : List (Bor Value) → List Value
values_of references = map (λ r. r.now) references

-- references to the values, in their order; in objects the names rise
pub record Sorts (values : List Value) (references : List (Bor Value)) : Type 0 where
  pub moved : IsPermutation values (values_of references)
  pub ordered : IsSortedBy (λ r s. is_before r.now s.now) references
  pub rise : items_rise (items_view values) ≡ true

-- some value equals the next
abbrev pub some_neighbours_equal : List Value → Bool
some_neighbours_equal [] = false
some_neighbours_equal (v ∷ []) = false
some_neighbours_equal (v ∷ w ∷ vs) = equal (view v) (view w) || some_neighbours_equal (w ∷ vs)
