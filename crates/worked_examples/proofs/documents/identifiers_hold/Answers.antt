use Rattle.worked_examples.proofs.Identifiers.{named_hold}
use Rattle.worked_examples.proofs.documents.identifiers_hold.Goals as goal

pub returns : goal.returns
returns c = named_hold
