-- What the steps of the code stand for.
use Rattle.std.specs.Rc.{rc_str_bytes}
use Rattle.json_values.specs.Parts.{Part, name, index}
use Rattle.schema_steps.specs.declared.step.Step.{Step}
use Rattle.schema_steps.specs.declared.step.Step.TheVariants.{Name, Item}

abbrev pub step_part : Step → Part
step_part (Name text) = name (rc_str_bytes text)
step_part (Item n) = index n
