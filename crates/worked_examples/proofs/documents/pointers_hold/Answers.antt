use Rattle.worked_examples.proofs.Pointers.{pointers_hold}
use Rattle.worked_examples.proofs.documents.pointers_hold.Goals as goal

pub returns : goal.returns
returns c = pointers_hold
