use Rattle.worked_examples.proofs.ValuesRows.{code_points_hold}
use Rattle.worked_examples.proofs.keywords.code_points_and_spaces.Goals as goal

pub returns : goal.returns
returns c = code_points_hold
