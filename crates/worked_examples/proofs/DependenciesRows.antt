use Rattle.std.proofs.Common.{refl}
use Rattle.std.specs.List.{AllByRecursion}
use Rattle.json_values.specs.Pointers.{replace_escape}
use Rattle.schema_meaning.specs.Readings.{told, through}
use Rattle.worked_examples.specs.Forms.{Holds}
use Rattle.worked_examples.specs.Dependencies.{dependent_schemas_and_names_examples}

pub dependent_schemas_and_names_hold : AllByRecursion Holds dependent_schemas_and_names_examples
unfolding told through replace_escape
dependent_schemas_and_names_hold = (((refl, refl), ((refl, refl), ((refl, refl), tt))), (((refl, refl), ((refl, refl), ((refl, refl), tt))), (((refl, refl), ((refl, refl), tt)), (((refl, refl), tt), (((refl, refl), tt), tt)))))
