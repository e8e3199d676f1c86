use Rattle.worked_examples.proofs.Siblings.{besides_hold}
use Rattle.worked_examples.proofs.documents.siblings_hold.Goals as goal

pub returns : goal.returns
returns c = besides_hold
