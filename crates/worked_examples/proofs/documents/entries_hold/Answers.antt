use Rattle.worked_examples.proofs.Entries.{entries_hold}
use Rattle.worked_examples.proofs.documents.entries_hold.Goals as goal

pub returns : goal.returns
returns c = entries_hold
