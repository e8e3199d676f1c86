use Rattle.moved_documents.proofs.Law.{inside_is_added}
use Rattle.moved_documents.proofs.roads.inside_is_added.Goals as goal

pub returns : goal.returns
returns c = inside_is_added
