use Rattle.worked_examples.proofs.StepsRows.{branch_steps_hold}
use Rattle.worked_examples.proofs.readings.steps_to_branches.Goals as goal

pub returns : goal.returns
returns c = branch_steps_hold
