use Rattle.worked_examples.proofs.ReferencesRows.{static_references_hold}
use Rattle.worked_examples.proofs.keywords.static_references.Goals as goal

pub returns : goal.returns
returns c = static_references_hold
