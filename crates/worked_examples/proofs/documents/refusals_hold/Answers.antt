use Rattle.worked_examples.proofs.Refusals.{refusals_hold}
use Rattle.worked_examples.proofs.documents.refusals_hold.Goals as goal

pub returns : goal.returns
returns c = refusals_hold
