use Rattle.document_laws.proofs.TargetsLooked.{dynamic_lookups_lie}
use Rattle.document_laws.proofs.targets.dynamic_lookups_lie.Goals as goal

pub returns : goal.returns
returns c = dynamic_lookups_lie
