use Rattle.worked_examples.proofs.CirclesRows.{recursive_hold}
use Rattle.worked_examples.proofs.readings.recursive_schemas.Goals as goal

pub returns : goal.returns
returns c = recursive_hold
