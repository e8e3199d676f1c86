use Rattle.std.proofs.Common.{◌≡◌, None, sym, ap, subst}
use Rattle.serde_json.specs.View.{view}
use Rattle.schema_meaning.specs.Places.{value_after, called_after}
use Rattle.applicators.specs.Questions.{step_of}
use Rattle.applicators.specs.declared.question.Asked.{Asked}
use Rattle.applicators.specs.declared.question.Asked.TheVariants as asked
use Rattle.fault_checks.proofs.applied_steps.value_of.Goals as goal

pub returns-in-Value : goal.returns-in-Value
returns-in-Value c = λ unnamed. ap (λ a. value_after (view c.args.value.now) (step_of a)) (sym c.in-Value.is)

pub returns-in-Item : goal.returns-in-Item
returns-in-Item c = λ unnamed. ap (λ a. value_after (view c.args.value.now) (step_of a)) (sym c.in-Item.is)

pub returns-in-Member : goal.returns-in-Member
returns-in-Member c = λ unnamed. ap (λ a. value_after (view c.args.value.now) (step_of a)) (sym c.in-Member.is)

pub returns-in-Name : goal.returns-in-Name
returns-in-Name c =
    λ unnamed.
    let no : called_after None (step_of (asked.Name c.in-Name.field-0)) ≡ None = subst (λ (a : Asked). called_after None (step_of a) ≡ None) c.in-Name.is unnamed in
    absurd (cc)
