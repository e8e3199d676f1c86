use Rattle.worked_examples.proofs.Lookups.{lookups_hold}
use Rattle.worked_examples.proofs.documents.lookups_hold.Goals as goal

pub returns : goal.returns
returns c = lookups_hold
