use Rattle.moved_documents.proofs.Apart.{root_stands_alone}
use Rattle.moved_documents.proofs.roads.root_stands_alone.Goals as goal

pub returns : goal.returns
returns c = root_stands_alone
