use Rattle.std.proofs.Common.{◌≡◌, ◌∙◌, ◌+◌, ◌∷◌, [], List, drop, ap, sym, subst, not, arith}
use Rattle.std.proofs.lemmas.List.{drop_more, drop_all}
use Rattle.serde_json.specs.View.{view}
use Rattle.schema_meaning.specs.Members.{first}
use Rattle.schema_patterns.specs.Read.{reads}
use Rattle.applicators.specs.declared.question.Question.{Question}
use Rattle.plain_reader.proofs.QuestionVerdicts.{question_inside}
use Rattle.fault_checks.specs.Verdicts.{IsAnswered}
use Rattle.fault_checks.proofs.AppliedQuestions.{Accepts, accepts_first, accepts_more, accepts_all, one_refused, none_refused}
use Rattle.fault_checks.proofs.CircleLemmas.{one_back}
use Rattle.plain_reader.proofs.ReturnLemmas.{stops_by}
use Rattle.std.proofs.lemmas.Result.{err_from_is_err_and}
use Rattle.fault_checks.proofs.applied_refusals.some_of_refused.Goals as goal

pub loop-question-init : goal.loop-question-init
loop-question-init c = accepts_first c.args.trial.now.site.now (view c.args.trial.now.value.now) c.args.asked.now

pub is_question_refused-requires : goal.is_question_refused-requires
is_question_refused-requires c =
    let qs = c.args.asked.now in
    let i = c.loop-question.question-index in
    let q = c.question-item.result in
    let next : drop i qs ≡ q ∷ drop (i + 1) qs = drop_more qs i q c.loop-question-test.true ∙ ap (λ x. x ∷ drop (i + 1) qs) (sym c.question-item.is) in
    let d = view c.args.trial.now.value.now in
    let left = subst (λ (xs : List Question). Accepts c.args.trial.now.site.now d qs xs) next c.loop-question.invariant in
    let a = c.args.applicator.now in
    let m = reads c.args.trial.now.site.now.matches.now in
    let among = left.among q first in
    record {
      inside = question_inside m a d qs c.requires.asked c.requires.by_answers q among c.args.trial.now.site.now c.requires.inside;
    }

pub returns-then-branch-clause-refused : goal.returns-then-branch-clause-refused
returns-then-branch-clause-refused c =
    let qs = c.args.asked.now in
    let i = c.loop-question.question-index in
    let q = c.question-item.result in
    let next : drop i qs ≡ q ∷ drop (i + 1) qs = drop_more qs i q c.loop-question-test.true ∙ ap (λ x. x ∷ drop (i + 1) qs) (sym c.question-item.is) in
    let d = view c.args.trial.now.value.now in
    let left = subst (λ (xs : List Question). Accepts c.args.trial.now.site.now d qs xs) next c.loop-question.invariant in
    let answer = subst (λ b. IsAnswered c.args.trial.now.site.now d q (not b)) c.if-branch.true c.in_ok-is_question_refused.ensures.refused in
    one_refused c.args.trial.now.site.now d c.args.applicator.now qs c.requires.asked c.requires.by_answers q (left.among q first) answer

pub loop-question-preserved : goal.loop-question-preserved
loop-question-preserved c =
    let qs = c.args.asked.now in
    let i = c.loop-question.question-index in
    let q = c.question-item.result in
    let next : drop i qs ≡ q ∷ drop (i + 1) qs = drop_more qs i q c.loop-question-test.true ∙ ap (λ x. x ∷ drop (i + 1) qs) (sym c.question-item.is) in
    let d = view c.args.trial.now.value.now in
    let left = subst (λ (xs : List Question). Accepts c.args.trial.now.site.now d qs xs) next c.loop-question.invariant in
    let answer = subst (λ b. IsAnswered c.args.trial.now.site.now d q (not b)) c.if-branch.false c.in_ok-is_question_refused.ensures.refused in
    accepts_more c.args.trial.now.site.now d qs (drop (i + 1) qs) q answer left

pub returns-clause-refused : goal.returns-clause-refused
returns-clause-refused c =
    let qs = c.args.asked.now in
    let d = view c.args.trial.now.value.now in
    let nothing : drop c.loop-question.question-index qs ≡ [] = drop_all c.loop-question.question-index qs (omega (arith, c.loop-question-test.false)) in
    let left = subst (λ (xs : List Question). Accepts c.args.trial.now.site.now d qs xs) nothing c.loop-question.invariant in
    none_refused c.args.trial.now.site.now d c.args.applicator.now qs c.requires.asked c.requires.by_answers (accepts_all c.args.trial.now.site.now d qs left)

pub returns-in_err-is_question_refused-clause-stops : goal.returns-in_err-is_question_refused-clause-stops
returns-in_err-is_question_refused-clause-stops c =
    let qs = c.args.asked.now in
    let i = c.loop-question.question-index in
    let q = c.question-item.result in
    let next : drop i qs ≡ q ∷ drop (i + 1) qs = drop_more qs i q c.loop-question-test.true ∙ ap (λ x. x ∷ drop (i + 1) qs) (sym c.question-item.is) in
    let d = view c.args.trial.now.value.now in
    let left = subst (λ (xs : List Question). Accepts c.args.trial.now.site.now d qs xs) next c.loop-question.invariant in
    let e = err_from_is_err_and c.from_residual.result c.from_residual.ensures.1 in
    rw (e.1, e.2) (stops_by _ _ (λ back. one_back c.args.trial.now c.args.applicator.now qs c.requires.asked c.requires.by_answers q (left.among q first) back) _ c.in_err-is_question_refused.ensures.stops)
