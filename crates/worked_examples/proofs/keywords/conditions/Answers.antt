use Rattle.worked_examples.proofs.ConditionsRows.{conditions_hold}
use Rattle.worked_examples.proofs.keywords.conditions.Goals as goal

pub returns : goal.returns
returns c = conditions_hold
