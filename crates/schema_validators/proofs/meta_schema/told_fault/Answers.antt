use Rattle.std.proofs.Common.{◌≡◌, ◌∙◌, IfErr, is_ok, sym, subst, true}
use Rattle.serde_json.specs.View.{view}
use Rattle.schema_meaning.specs.Readings.{verdicts}
use Rattle.schema_reports.specs.Told.{fault_of, error_is_proper}
use Rattle.schema_registries.specs.Answers.{IsAnswer}
use Rattle.schema_validators.specs.Calls.{IsFaultOf}
use Rattle.schema_validators.proofs.meta_schema.told_fault.Goals as goal

pub returns-in-Ok-clause-accepted : goal.returns-in-Ok-clause-accepted
returns-in-Ok-clause-accepted g c = λ none p r made.
    subst (λ x. IsAnswer verdicts p r (view c.args.value.now) (is_ok x)) c.in-Ok.is (c.in_ok-first_fault.ensures.verdict p r made)

pub returns-in_ok-to_owned-in-Err-clause-fault : goal.returns-in_ok-to_owned-in-Err-clause-fault
returns-in_ok-to_owned-in-Err-clause-fault g c =
    let Told = IsFaultOf c.args.meta_schema.now (view c.args.value.now) in
    subst Told (sym c.in_ok-to_owned-in-Err.ensures.told) (subst (λ x. IfErr x (λ e. Told (fault_of e))) c.in-Err.is c.in_ok-first_fault.ensures.fault)

pub returns-in_ok-to_owned-in-Err-clause-proper : goal.returns-in_ok-to_owned-in-Err-clause-proper
returns-in_ok-to_owned-in-Err-clause-proper g c =
    c.in_ok-to_owned-in-Err.ensures.proper ∙ subst (λ x. IfErr x (λ e. error_is_proper e ≡ true)) c.in-Err.is c.in_ok-first_fault.ensures.proper
