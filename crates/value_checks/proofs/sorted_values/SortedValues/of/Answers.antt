use Rattle.value_checks.proofs.Searching.{sorted_among}
use Rattle.value_checks.proofs.Sorting.{sorted_rise}
use Rattle.value_checks.proofs.sorted_values.SortedValues.of.Goals as goal

pub invariant_of-result : goal.invariant_of-result
invariant_of-result c =
    let vs = c.args.values.now in
    let rs = c.in_ok-sorted.sorted.items in
    record { ordered = c.in_ok-sorted.ensures.ordered; same = sorted_among vs rs c.in_ok-sorted.ensures; rise = sorted_rise vs rs c.in_ok-sorted.ensures }
