use Rattle.serde_json.specs.View.{view}
use Rattle.assertions.proofs.ReadLemmas.{unique-row}
use Rattle.assertions.proofs.reading.unique_items.Goals as goal

pub returns-in-None : goal.returns-in-None
returns-in-None c = λ x. unique-row x (view c.args.value.now) c.asserted.result c.in-None.ensures c.asserted.ensures
