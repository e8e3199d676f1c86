use Rattle.document_laws.proofs.TargetsListed.{targets_are_listed}
use Rattle.document_laws.proofs.targets.targets_are_listed.Goals as goal

pub returns : goal.returns
returns c = targets_are_listed
