use Rattle.std.proofs.Common.{◌∙◌, not, sym, subst}
use Rattle.std.proofs.lemmas.Result.{IfOk-weaker, IfErr-weaker, err_from_is_err_and}
use Rattle.serde_json.specs.View.{view}
use Rattle.fault_paths.proofs.TextFacts.{apart_by, same_by}
use Rattle.fault_checks.specs.Verdicts.{IsInnerVerdict}
use Rattle.fault_checks.proofs.Chosen.{by_other_name, by_no_part, by_part, chosen_inside}
use Rattle.fault_checks.proofs.CircleLemmas.{condition_back, chosen_back}
use Rattle.plain_reader.proofs.ReturnLemmas.{stops_by}
use Rattle.fault_checks.proofs.choice_refusals.condition_refuses.Goals as goal

pub returns-then-ne-clause-refuses : goal.returns-then-ne-clause-refuses
returns-then-ne-clause-refuses c =
    by_other_name c.args.trial.now.site.now (view c.args.trial.now.value.now) c.args.condition c.args.then_schema c.args.else_schema c.args.trial.now.shallow c.args.name.now (not c.in_ok-refused.refused) c.in_ok-refused.ensures.refused
    (λ same. apart_by c.chosen.result.0.now c.args.name.now c.ne.result c.ne.ensures c.if-ne.true (c.chosen.ensures.name ∙ same))

pub returns-in-None-clause-refuses : goal.returns-in-None-clause-refuses
returns-in-None-clause-refuses c =
    by_no_part c.args.trial.now.site.now (view c.args.trial.now.value.now) c.args.condition c.args.then_schema c.args.else_schema c.args.trial.now.shallow c.args.name.now (not c.in_ok-refused.refused) c.in_ok-refused.ensures.refused
    (sym c.chosen.ensures.schema ∙ c.in-None.is)

pub is_inner_refused-requires-in-Some : goal.is_inner_refused-requires-in-Some
is_inner_refused-requires-in-Some c = record { inside = chosen_inside c.args.trial.now.site.now c.args.then_schema c.args.else_schema c.requires.lies.beside (not c.in_ok-refused.refused) c.in-Some.part (sym c.chosen.ensures.schema ∙ c.in-Some.is) }

pub returns-in-Some-clause-refuses : goal.returns-in-Some-clause-refuses
returns-in-Some-clause-refuses c =
    let d = view c.args.trial.now.value.now in
    IfOk-weaker c.is_inner_refused-in-Some.result _ _
    (λ v h. by_part c.args.trial.now.site.now d c.args.condition c.args.then_schema c.args.else_schema c.args.trial.now.shallow c.args.name.now (not c.in_ok-refused.refused) c.in_ok-refused.ensures.refused
    c.in-Some.part (sym c.chosen.ensures.schema ∙ c.in-Some.is) (sym c.chosen.ensures.name ∙ same_by c.chosen.result.0.now c.args.name.now c.ne.result c.ne.ensures c.if-ne.false) v
    (subst (λ k. IsInnerVerdict c.args.trial.now.site.now d k (view c.in-Some.part.now) (not v)) c.chosen.ensures.name h))
    c.is_inner_refused-in-Some.ensures.refused

pub returns-in_err-refused-clause-stops : goal.returns-in_err-refused-clause-stops
returns-in_err-refused-clause-stops c =
    let e = err_from_is_err_and c.from_residual.result c.from_residual.ensures.1 in
    rw (e.1, e.2) (stops_by _ _ (λ back. condition_back c.args.trial.now c.args.condition c.args.then_schema c.args.else_schema back) _ c.in_err-refused.ensures.stops)

pub returns-in-Some-clause-stops : goal.returns-in-Some-clause-stops
returns-in-Some-clause-stops c =
    IfErr-weaker c.is_inner_refused-in-Some.result _ _ (λ e h. stops_by _ _ (λ back. chosen_back c.args.trial.now c.args.condition c.args.then_schema c.args.else_schema (not c.in_ok-refused.refused) c.in_ok-refused.ensures.refused c.chosen.result.0.now c.chosen.ensures.name c.in-Some.part (sym c.chosen.ensures.schema ∙ c.in-Some.is) back) e h) c.is_inner_refused-in-Some.ensures.stops
