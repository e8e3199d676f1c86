use Rattle.std.proofs.Common.{◌≡◌, ◌∷◌, drop}
use Rattle.value_checks.specs.Sorts.{values_of, some_neighbours_equal}
use Rattle.value_checks.proofs.distinct.are_neighbours_distinct.Given as goal

abbrev pub invariant-loop-value : goal.invariant-loop-value
invariant-loop-value l = some_neighbours_equal (values_of l.values) ≡ some_neighbours_equal (l.before ∷ values_of (drop l.value-index l.rest))
