use Rattle.std.proofs.Common.{◌∙◌, not, sym}
use Rattle.std.proofs.lemmas.Result.{err_from_is_err_and}
use Rattle.fault_paths.proofs.TextFacts.{apart_by, same_by}
use Rattle.fault_checks.proofs.Chosen.{chosen_inside}
use Rattle.fault_checks.proofs.ChosenSteps.{other_name, no_part, to_chosen, chosen_shorter}
use Rattle.fault_checks.proofs.CircleLemmas.{condition_back}
use Rattle.plain_reader.proofs.ReturnLemmas.{stops_by}
use Rattle.fault_checks.proofs.choice_steps.through_condition.Goals as goal

pub is_inner_refused-requires : goal.is_inner_refused-requires
is_inner_refused-requires c = record { inside = c.requires.lies.inside }

pub returns-then-ne-clause-passes : goal.returns-then-ne-clause-passes
returns-then-ne-clause-passes c =
    other_name c.args.walk c.args.condition c.args.then_schema c.args.else_schema c.args.name.now c.args.after c.requires.more (not c.in_ok-refused.refused) c.in_ok-refused.ensures.refused
    (λ same. apart_by c.chosen.result.0.now c.args.name.now c.ne.result c.ne.ensures c.if-ne.true (c.chosen.ensures.name ∙ same))

pub returns-in_default-clause-passes : goal.returns-in_default-clause-passes
returns-in_default-clause-passes c =
    no_part c.args.walk c.args.condition c.args.then_schema c.args.else_schema c.args.name.now c.args.after c.requires.more (not c.in_ok-refused.refused) c.in_ok-refused.ensures.refused
    (sym c.chosen.ensures.schema ∙ c.in_default.is)

pub to_question-requires : goal.to_question-requires
to_question-requires c = record {
  inside = chosen_inside c.args.walk.site c.args.then_schema c.args.else_schema c.requires.lies.beside (not c.in_ok-refused.refused) c.in-Some.schema (sym c.chosen.ensures.schema ∙ c.in-Some.is);
}

pub returns-clause-passes : goal.returns-clause-passes
returns-clause-passes c =
    to_chosen c.args.walk c.args.condition c.args.then_schema c.args.else_schema c.args.name.now c.args.after c.requires.more (not c.in_ok-refused.refused) c.in_ok-refused.ensures.refused
    c.in-Some.schema (sym c.chosen.ensures.schema ∙ c.in-Some.is) (sym c.chosen.ensures.name ∙ same_by c.chosen.result.0.now c.args.name.now c.ne.result c.ne.ensures c.if-ne.false)
    c.in_ok-to_question.field-0 c.chosen.result.0 c.chosen.ensures.name c.in_ok-to_question.ensures

pub returns-clause-shorter : goal.returns-clause-shorter
returns-clause-shorter c = chosen_shorter c.args.walk c.chosen.result.0 c.in-Some.schema c.args.after c.in_ok-to_question.field-0 c.in_ok-to_question.ensures

pub returns-in_err-refused-clause-stops : goal.returns-in_err-refused-clause-stops
returns-in_err-refused-clause-stops c =
    let e = err_from_is_err_and c.from_residual.result c.from_residual.ensures.1 in
    rw (e.1, e.2) (stops_by _ _ (λ back. condition_back _ c.args.condition c.args.then_schema c.args.else_schema back) _ c.in_err-refused.ensures.stops)
