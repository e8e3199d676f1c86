use Rattle.serde_json.specs.View.{view}
use Rattle.applicator_reading.proofs.DependencyLemmas.{entries_other}
use Rattle.applicator_reading.proofs.dependencies.dependencies.Goals as goal

pub returns-in_default-clause-read : goal.returns-in_default-clause-read
returns-in_default-clause-read c = λ x. entries_other x (view c.args.value.now) c.in_default.ensures

pub returns-in-Some-2-clause-answers : goal.returns-in-Some-2-clause-answers
returns-in-Some-2-clause-answers c = rw c.in-Some-2.is at c.in_ok-refused.ensures.answers
