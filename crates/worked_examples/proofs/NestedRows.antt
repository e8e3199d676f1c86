use Rattle.std.proofs.Common.{refl}
use Rattle.std.specs.List.{AllByRecursion}
use Rattle.json_values.specs.Pointers.{replace_escape}
use Rattle.schema_meaning.specs.Readings.{told, through}
use Rattle.worked_examples.specs.Forms.{Holds}
use Rattle.worked_examples.specs.Nested.{nested_combinations_examples}

pub nested_combinations_hold : AllByRecursion Holds nested_combinations_examples
unfolding told through replace_escape
nested_combinations_hold = (((refl, refl), tt), (((refl, refl), tt), (((refl, refl), tt), (((refl, refl), ((refl, refl), tt)), (((refl, refl), tt), tt)))))
