use Rattle.worked_examples.proofs.LogicRows.{combinations_hold}
use Rattle.worked_examples.proofs.keywords.combinations.Goals as goal

pub returns : goal.returns
returns c = combinations_hold
