use Rattle.std.proofs.Common.{◌∙◌, ap, not}
use Rattle.value_checks.specs.Sorts.{values_of, some_neighbours_equal}
use Rattle.value_checks.proofs.Sorting.{neighbours_tell}
use Rattle.value_checks.proofs.distinct.all_distinct.Goals as goal

pub returns : goal.returns
returns c =
    c.are_neighbours_distinct.ensures ∙ ap (λ rs. not (some_neighbours_equal (values_of rs))) c.deref.ensures.value
    ∙ neighbours_tell c.args.items.now c.in_ok-sorted.sorted.items c.in_ok-sorted.ensures
