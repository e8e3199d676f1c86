use Rattle.serde_json.specs.View.{view}
use Rattle.assertions.proofs.EntryLemmas.{no-entries}
use Rattle.assertions.proofs.reading.dependent_required.Goals as goal

pub returns-in_default : goal.returns-in_default
returns-in_default c = λ x. no-entries x (view c.args.value.now) c.asserted.result c.in_default.ensures c.asserted.ensures
