use Rattle.serde_json.specs.View.{view}
use Rattle.assertions.proofs.WrongLemmas.{told_alone}
use Rattle.assertions.proofs.assertion.Assertion.wrong.Goals as goal

pub returns-in_ok-first_wrong-in_default : goal.returns-in_ok-first_wrong-in_default
returns-in_ok-first_wrong-in_default c =
    let first = c.in_ok-first_wrong-in_default in
    told_alone c.listed.result first.field-0 c.args.self.now (view c.args.value.now) c.in_default.not-Required c.in_default.not-DependentRequired first.ensures c.listed.ensures
