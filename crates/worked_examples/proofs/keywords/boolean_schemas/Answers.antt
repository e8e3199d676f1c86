use Rattle.worked_examples.proofs.BooleansRows.{boolean_schemas_hold}
use Rattle.worked_examples.proofs.keywords.boolean_schemas.Goals as goal

pub returns : goal.returns
returns c = boolean_schemas_hold
