use Rattle.std.proofs.Common.{◌∙◌, sym, subst}
use Rattle.std.proofs.lemmas.Result.{IfOk-weaker}
use Rattle.serde_json.specs.View.{view}
use Rattle.schema_meaning.specs.Faults.{Faults, is_none}
use Rattle.schema_meaning.specs.Readings.{verdicts}
use Rattle.schema_registries.specs.Answers.{IsAnswer}
use Rattle.schema_validators.specs.Answered.{AreFaults}
use Rattle.schema_validators.proofs.meta_faults.tell.Goals as goal

pub returns-clause-faults : goal.returns-clause-faults
returns-clause-faults g c =
    IfOk-weaker c.owned.result _ _ (λ v told p r made. subst (AreFaults p r (view c.args.value.now)) (sym told) (c.in_ok-errors.ensures.faults p r made)) c.owned.ensures.told

pub returns-clause-verdict : goal.returns-clause-verdict
returns-clause-verdict g c =
    IfOk-weaker c.owned.result _ _
    (λ v told p r made. subst (λ (fs : Faults). IsAnswer verdicts p r (view c.args.value.now) (is_none fs)) (sym told) (c.in_ok-errors.ensures.verdict p r made))
    c.owned.ensures.told

pub returns-clause-proper : goal.returns-clause-proper
returns-clause-proper g c = IfOk-weaker c.owned.result _ _ (λ v told. told ∙ c.in_ok-errors.ensures.proper) c.owned.ensures.proper
