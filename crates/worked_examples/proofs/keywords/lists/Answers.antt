use Rattle.worked_examples.proofs.ListsRows.{lists_hold}
use Rattle.worked_examples.proofs.keywords.lists.Goals as goal

pub returns : goal.returns
returns c = lists_hold
