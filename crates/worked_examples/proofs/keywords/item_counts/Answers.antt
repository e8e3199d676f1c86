use Rattle.worked_examples.proofs.ItemCountsRows.{item_counts_hold}
use Rattle.worked_examples.proofs.keywords.item_counts.Goals as goal

pub returns : goal.returns
returns c = item_counts_hold
