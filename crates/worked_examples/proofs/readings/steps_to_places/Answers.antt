use Rattle.worked_examples.proofs.StepsRows.{place_steps_hold}
use Rattle.worked_examples.proofs.readings.steps_to_places.Goals as goal

pub returns : goal.returns
returns c = place_steps_hold
