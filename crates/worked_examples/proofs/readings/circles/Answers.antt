use Rattle.worked_examples.proofs.CirclesRows.{circles_hold, keys_of_itself}
use Rattle.worked_examples.proofs.readings.circles.Goals as goal

pub returns-clause-out : goal.returns-clause-out
returns-clause-out c = circles_hold

pub returns-clause-all_keys : goal.returns-clause-all_keys
returns-clause-all_keys c = keys_of_itself
