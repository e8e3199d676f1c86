use Rattle.worked_examples.proofs.ValuesRows.{literals_hold}
use Rattle.worked_examples.proofs.keywords.literal_patterns.Goals as goal

pub returns : goal.returns
returns c = literals_hold
