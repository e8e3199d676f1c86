use Rattle.std.proofs.Common.{ap, ◌∙◌, None, Some, Bor, option_map}
use Rattle.serde_json.specs.View.{view}
use Rattle.serde_json.specs.declared.value.Value.{Value}
use Rattle.schema_steps.proofs.StepLemmas.{value_step}
use Rattle.schema_steps.proofs.path.+find_behind.Goals as goal

pub returns-in_err-value : goal.returns-in_err-value
returns-in_err-value t c =
    ap (option_map (λ (v : Bor Value). view v.now)) c.from_residual.ensures
    ∙ value_step c.args.steps c.next.new.self c.in-Some.step.now c.in-Some.ensures.steps (view c.args.document.now) None c.in_err-value.ensures

pub returns : goal.returns
returns t c =
    c.find_in.ensures
    ∙ value_step c.args.steps c.next.new.self c.in-Some.step.now c.in-Some.ensures.steps (view c.args.document.now) (Some (view c.in_ok-value.value.now)) c.in_ok-value.ensures
