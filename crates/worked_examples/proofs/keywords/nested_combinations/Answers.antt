use Rattle.worked_examples.proofs.NestedRows.{nested_combinations_hold}
use Rattle.worked_examples.proofs.keywords.nested_combinations.Goals as goal

pub returns : goal.returns
returns c = nested_combinations_hold
