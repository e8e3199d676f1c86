use Rattle.std.proofs.Common.{refl}
use Rattle.std.specs.List.{AllByRecursion}
use Rattle.json_values.specs.Pointers.{replace_escape}
use Rattle.schema_meaning.specs.Readings.{told, through}
use Rattle.worked_examples.specs.Forms.{Holds}
use Rattle.worked_examples.specs.Logic.{combinations_examples}

pub combinations_hold : AllByRecursion Holds combinations_examples
unfolding told through replace_escape
combinations_hold = (((refl, refl), ((refl, refl), tt)), (((refl, refl), tt), (((refl, refl), ((refl, refl), tt)), (((refl, refl), tt), (((refl, refl), ((refl, refl), tt)), (((refl, refl), tt), (((refl, refl), tt), (((refl, refl), tt), (((refl, refl), ((refl, refl), tt)), (((refl, refl), tt), tt))))))))))
