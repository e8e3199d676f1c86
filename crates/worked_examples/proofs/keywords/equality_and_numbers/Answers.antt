use Rattle.worked_examples.proofs.ValuesRows.{values_hold}
use Rattle.worked_examples.proofs.keywords.equality_and_numbers.Goals as goal

pub returns : goal.returns
returns c = values_hold
