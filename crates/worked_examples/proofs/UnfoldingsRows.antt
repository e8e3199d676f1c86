use Rattle.std.proofs.Common.{refl}
use Rattle.std.specs.List.{AllByRecursion}
use Rattle.json_values.specs.Pointers.{replace_escape}
use Rattle.schema_meaning.specs.Readings.{told, through}
use Rattle.worked_examples.specs.Unfoldings.{IsSpent, NestingSpendsNothing, spend_examples}

pub spend_hold : AllByRecursion IsSpent spend_examples
unfolding told through replace_escape
spend_hold = ((refl, refl), ((refl, refl), ((refl, refl), ((refl, refl), tt))))

pub nesting_spends_nothing : NestingSpendsNothing
unfolding told through replace_escape
nesting_spends_nothing = refl
