use Rattle.moved_documents.proofs.Told.{once_beside}
use Rattle.moved_documents.proofs.roads.once_beside.Goals as goal

pub returns : goal.returns
returns c = once_beside
