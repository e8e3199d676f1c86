use Rattle.worked_examples.proofs.AnyTypeRows.{any_type_hold}
use Rattle.worked_examples.proofs.keywords.any_type.Goals as goal

pub returns : goal.returns
returns c = any_type_hold
