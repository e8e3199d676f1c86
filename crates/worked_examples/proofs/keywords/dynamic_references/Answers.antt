use Rattle.worked_examples.proofs.DynamicReferencesRows.{dynamic_references_hold}
use Rattle.worked_examples.proofs.keywords.dynamic_references.Goals as goal

pub returns : goal.returns
returns c = dynamic_references_hold
