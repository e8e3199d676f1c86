use Rattle.std.proofs.Common.{refl}
use Rattle.std.specs.List.{AllByRecursion}
use Rattle.json_values.specs.Pointers.{replace_escape}
use Rattle.std.specs.Str.{chars}
use Rattle.json_values.specs.Patterns.{unescaped}
use Rattle.schema_meaning.specs.Readings.{told, through}
use Rattle.worked_examples.specs.Forms.{Holds}
use Rattle.worked_examples.specs.NoOtherMembers.{no_other_members_examples}

pub no_other_members_hold : AllByRecursion Holds no_other_members_examples
unfolding told through replace_escape chars unescaped
no_other_members_hold = (((refl, refl), ((refl, refl), tt)), (((refl, refl), tt), (((refl, refl), ((refl, refl), tt)), (((refl, refl), ((refl, refl), ((refl, refl), tt))), (((refl, refl), tt), (((refl, refl), tt), tt))))))
