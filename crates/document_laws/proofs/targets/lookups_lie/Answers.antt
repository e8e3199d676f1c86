use Rattle.document_laws.proofs.TargetsLooked.{lookups_lie}
use Rattle.document_laws.proofs.targets.lookups_lie.Goals as goal

pub returns : goal.returns
returns c = lookups_lie
