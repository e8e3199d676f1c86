use Rattle.worked_examples.proofs.DependenciesRows.{dependent_schemas_and_names_hold}
use Rattle.worked_examples.proofs.keywords.dependent_schemas_and_names.Goals as goal

pub returns : goal.returns
returns c = dependent_schemas_and_names_hold
