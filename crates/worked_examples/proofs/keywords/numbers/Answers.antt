use Rattle.worked_examples.proofs.NumbersRows.{numbers_hold}
use Rattle.worked_examples.proofs.keywords.numbers.Goals as goal

pub returns : goal.returns
returns c = numbers_hold
