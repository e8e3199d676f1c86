use Rattle.worked_examples.proofs.UnfoldingsRows.{spend_hold, nesting_spends_nothing}
use Rattle.worked_examples.proofs.readings.unfoldings.Goals as goal

pub returns-clause-spent : goal.returns-clause-spent
returns-clause-spent c = spend_hold

pub returns-clause-nested : goal.returns-clause-nested
returns-clause-nested c = nesting_spends_nothing
