use Rattle.worked_examples.proofs.ItemSchemasRows.{item_schemas_hold}
use Rattle.worked_examples.proofs.keywords.item_schemas.Goals as goal

pub returns : goal.returns
returns c = item_schemas_hold
