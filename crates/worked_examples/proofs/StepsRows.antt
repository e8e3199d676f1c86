use Rattle.std.proofs.Common.{refl}
use Rattle.std.specs.List.{AllByRecursion}
use Rattle.json_values.specs.Pointers.{replace_escape}
use Rattle.json_values.specs.Patterns.{unescaped}
use Rattle.worked_examples.specs.Steps.{StepsHold, place_steps_examples, branch_steps_examples}

pub place_steps_hold : AllByRecursion StepsHold place_steps_examples
unfolding unescaped replace_escape
place_steps_hold = ((refl, refl), ((refl, refl), ((refl, refl), ((refl, refl), ((refl, refl), ((refl, refl), ((refl, refl), ((refl, refl), ((refl, refl), ((refl, refl), ((refl, refl), ((refl, refl), ((refl, refl), tt)))))))))))))

pub branch_steps_hold : AllByRecursion StepsHold branch_steps_examples
unfolding unescaped replace_escape
branch_steps_hold = ((refl, refl), ((refl, refl), ((refl, refl), ((refl, refl), ((refl, refl), ((refl, refl), ((refl, refl), ((refl, refl), ((refl, refl), ((refl, refl), ((refl, refl), ((refl, refl), ((refl, refl), ((refl, refl), tt))))))))))))))
