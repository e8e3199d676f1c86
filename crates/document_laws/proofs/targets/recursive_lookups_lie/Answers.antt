use Rattle.document_laws.proofs.TargetsLooked.{recursive_lookups_lie}
use Rattle.document_laws.proofs.targets.recursive_lookups_lie.Goals as goal

pub returns : goal.returns
returns c = recursive_lookups_lie
