use Rattle.std.proofs.Common.{Option, IfSome, subst}
use Rattle.std.specs.Prelude.{MatchOption}
use Rattle.std.proofs.lemmas.Result.{IfOk-weaker}
use Rattle.serde_json.specs.View.{view}
use Rattle.schema_patterns.specs.Read.{reads}
use Rattle.fault_paths.specs.Texts.{text_left}
use Rattle.fault_paths.specs.Ahead.{NoneAhead, IsAhead, IsNoLonger}
use Rattle.fault_paths.specs.declared.ahead.Ahead.{Ahead}
use Rattle.fault_checks.proofs.Passed.{question_inside}
use Rattle.fault_checks.proofs.AppliedSteps.{applied_nowhere, applied_to, applied_shorter}
use Rattle.fault_checks.proofs.applied_steps.along.Goals as goal

pub to_question-requires : goal.to_question-requires
to_question-requires c =
    let m = reads c.args.walk.site.matches.now in
    let a = c.args.applicator.now in
    let d = view c.args.walk.value.now in
    let qs = c.args.asked.now in
    let i = text_left c.args.walk.instance in
    let e = text_left c.args.after in
    let found = subst (λ (o : Option Ahead). MatchOption o (NoneAhead qs i e) (IsAhead qs i e)) c.in-Some.is c.in_ok-question_ahead.ensures.ahead in
    record {
      inside = question_inside m a d qs c.requires.asked c.requires.applies.by_answers c.in-Some.ahead.question found.among c.args.walk.site c.requires.applies.inside;
    }

pub returns-in-None-clause-passes : goal.returns-in-None-clause-passes
returns-in-None-clause-passes c =
    let qs = c.args.asked.now in
    let i = text_left c.args.walk.instance in
    let e = text_left c.args.after in
    let nowhere = subst (λ (o : Option Ahead). MatchOption o (NoneAhead qs i e) (IsAhead qs i e)) c.in-None.is c.in_ok-question_ahead.ensures.ahead in
    applied_nowhere c.args.walk c.args.applicator.now c.args.after qs c.requires.asked c.requires.values c.requires.more c.requires.obliging nowhere

pub returns-clause-passes : goal.returns-clause-passes
returns-clause-passes c =
    let qs = c.args.asked.now in
    let i = text_left c.args.walk.instance in
    let e = text_left c.args.after in
    let found = subst (λ (o : Option Ahead). MatchOption o (NoneAhead qs i e) (IsAhead qs i e)) c.in-Some.is c.in_ok-question_ahead.ensures.ahead in
    IfOk-weaker c.to_question.result _ _
    (λ st h. applied_to c.args.walk c.args.applicator.now c.args.after qs c.in-Some.ahead st c.requires.asked c.requires.applies c.requires.values c.requires.more c.requires.obliging c.requires.once found h) c.to_question.ensures

pub returns-clause-shorter : goal.returns-clause-shorter
returns-clause-shorter c =
    let shorter = subst (λ (o : Option Ahead). IfSome o (IsNoLonger (text_left c.args.after))) c.in-Some.is c.in_ok-question_ahead.ensures.shorter in
    IfOk-weaker c.to_question.result _ _ (λ st h. applied_shorter c.args.walk c.args.after c.in-Some.ahead st shorter h) c.to_question.ensures
