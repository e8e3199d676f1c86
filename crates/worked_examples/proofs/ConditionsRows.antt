use Rattle.std.proofs.Common.{refl}
use Rattle.std.specs.List.{AllByRecursion}
use Rattle.json_values.specs.Pointers.{replace_escape}
use Rattle.schema_meaning.specs.Readings.{told, through}
use Rattle.worked_examples.specs.Forms.{Holds}
use Rattle.worked_examples.specs.Conditions.{conditions_examples}

pub conditions_hold : AllByRecursion Holds conditions_examples
unfolding told through replace_escape
conditions_hold = (((refl, refl), ((refl, refl), tt)), (((refl, refl), ((refl, refl), tt)), (((refl, refl), ((refl, refl), tt)), (((refl, refl), ((refl, refl), tt)), (((refl, refl), tt), (((refl, refl), tt), (((refl, refl), tt), tt)))))))
