use Rattle.std.proofs.Common.{refl}
use Rattle.std.specs.List.{AllByRecursion}
use Rattle.json_values.specs.Pointers.{replace_escape}
use Rattle.schema_meaning.specs.Readings.{told, through}
use Rattle.worked_examples.specs.Forms.{Holds}
use Rattle.worked_examples.specs.DraftFourLimits.{draft_four_limits_examples}

pub draft_four_limits_hold : AllByRecursion Holds draft_four_limits_examples
unfolding told through replace_escape
draft_four_limits_hold = (((refl, refl), ((refl, refl), ((refl, refl), tt))), (((refl, refl), tt), (((refl, refl), tt), (((refl, refl), ((refl, refl), tt)), (((refl, refl), tt), (((refl, refl), tt), (((refl, refl), tt), tt)))))))
