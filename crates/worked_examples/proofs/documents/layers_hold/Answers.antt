use Rattle.worked_examples.proofs.Siblings.{layered_hold}
use Rattle.worked_examples.proofs.documents.layers_hold.Goals as goal

pub returns : goal.returns
returns c = layered_hold
