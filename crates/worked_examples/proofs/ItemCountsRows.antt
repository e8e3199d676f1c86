use Rattle.std.proofs.Common.{refl}
use Rattle.std.specs.List.{AllByRecursion}
use Rattle.json_values.specs.Pointers.{replace_escape}
use Rattle.schema_meaning.specs.Readings.{told, through}
use Rattle.worked_examples.specs.Forms.{Holds}
use Rattle.worked_examples.specs.ItemCounts.{item_counts_examples}

pub item_counts_hold : AllByRecursion Holds item_counts_examples
unfolding told through replace_escape
item_counts_hold = (((refl, refl), ((refl, refl), ((refl, refl), ((refl, refl), tt)))), (((refl, refl), ((refl, refl), ((refl, refl), tt))), (((refl, refl), ((refl, refl), tt)), (((refl, refl), tt), (((refl, refl), ((refl, refl), ((refl, refl), tt))), (((refl, refl), tt), (((refl, refl), tt), tt)))))))
