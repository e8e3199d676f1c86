use Rattle.added_documents.proofs.Targets.{targets_stay}
use Rattle.added_documents.proofs.documents.targets_stay.Goals as goal

pub returns : goal.returns
returns c = targets_stay
