use Rattle.worked_examples.proofs.Dialects.{dialects_hold}
use Rattle.worked_examples.proofs.documents.dialects_hold.Goals as goal

pub returns : goal.returns
returns c = dialects_hold
