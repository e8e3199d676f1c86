use Rattle.worked_examples.proofs.References.{references_hold}
use Rattle.worked_examples.proofs.documents.references_hold.Goals as goal

pub returns : goal.returns
returns c = references_hold
