use Rattle.moved_documents.proofs.Needed.{both_may_bear}
use Rattle.moved_documents.proofs.roads.both_may_bear.Goals as goal

pub returns : goal.returns
returns c = both_may_bear
