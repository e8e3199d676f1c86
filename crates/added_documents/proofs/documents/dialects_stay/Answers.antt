use Rattle.added_documents.proofs.Stages.{dialects_stay}
use Rattle.added_documents.proofs.documents.dialects_stay.Goals as goal

pub returns : goal.returns
returns c = dialects_stay
