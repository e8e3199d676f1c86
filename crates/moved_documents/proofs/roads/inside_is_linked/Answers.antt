use Rattle.moved_documents.proofs.Linked.{inside_is_linked}
use Rattle.moved_documents.proofs.roads.inside_is_linked.Goals as goal

pub returns : goal.returns
returns c = inside_is_linked
