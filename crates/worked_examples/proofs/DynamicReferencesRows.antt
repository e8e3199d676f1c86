use Rattle.std.proofs.Common.{refl}
use Rattle.std.specs.List.{AllByRecursion}
use Rattle.json_values.specs.Pointers.{replace_escape}
use Rattle.schema_meaning.specs.Readings.{told, through}
use Rattle.worked_examples.specs.Forms.{Holds}
use Rattle.worked_examples.specs.DynamicReferences.{dynamic_references_examples}

pub dynamic_references_hold : AllByRecursion Holds dynamic_references_examples
unfolding told through replace_escape
dynamic_references_hold = (((refl, refl), ((refl, refl), tt)), (((refl, refl), tt), (((refl, refl), tt), (((refl, refl), ((refl, refl), tt)), (((refl, refl), tt), tt)))))
