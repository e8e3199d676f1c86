use Rattle.moved_documents.proofs.Retrieved.{wanted_is_added}
use Rattle.moved_documents.proofs.roads.wanted_is_added.Goals as goal

pub returns : goal.returns
returns c = wanted_is_added
