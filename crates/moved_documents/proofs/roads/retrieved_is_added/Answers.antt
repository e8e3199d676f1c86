use Rattle.moved_documents.proofs.Retrieved.{retrieved_is_added}
use Rattle.moved_documents.proofs.roads.retrieved_is_added.Goals as goal

pub returns : goal.returns
returns c = retrieved_is_added
