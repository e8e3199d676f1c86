use Rattle.moved_documents.proofs.Once.{once_is_always}
use Rattle.moved_documents.proofs.roads.once_is_always.Goals as goal

pub returns : goal.returns
returns c = once_is_always
