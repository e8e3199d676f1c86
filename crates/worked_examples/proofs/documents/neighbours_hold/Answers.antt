use Rattle.worked_examples.proofs.Neighbours.{neighbours_hold}
use Rattle.worked_examples.proofs.documents.neighbours_hold.Goals as goal

pub returns : goal.returns
returns c = neighbours_hold
