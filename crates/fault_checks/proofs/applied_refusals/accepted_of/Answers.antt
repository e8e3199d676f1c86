use Rattle.std.proofs.Common.{◌≡◌, ◌∙◌, ◌+◌, ◌∷◌, [], List, drop, ap, sym, subst, not, arith}
use Rattle.std.proofs.lemmas.List.{drop_more, drop_all}
use Rattle.serde_json.specs.View.{view}
use Rattle.schema_meaning.specs.Members.{first}
use Rattle.schema_patterns.specs.Read.{reads}
use Rattle.applicators.specs.declared.question.Question.{Question}
use Rattle.plain_reader.proofs.QuestionVerdicts.{question_inside}
use Rattle.fault_checks.specs.Verdicts.{IsAnswered}
use Rattle.fault_checks.proofs.Counted.{Tallied, tallied_first, tallied_yes, tallied_no, tallied}
use Rattle.fault_checks.proofs.CircleLemmas.{one_back}
use Rattle.plain_reader.proofs.ReturnLemmas.{stops_by}
use Rattle.std.proofs.lemmas.Result.{err_from_is_err_and}
use Rattle.fault_checks.proofs.applied_refusals.accepted_of.Goals as goal
use Rattle.fault_checks.proofs.applied_refusals.accepted_of.Goals.{then-not-branch, else-not-branch}

pub loop-question-init : goal.loop-question-init
loop-question-init c = record {
  few = omega arith;
  tallied = tallied_first c.args.trial.now.site.now (view c.args.trial.now.value.now) c.args.asked.now;
}

pub is_question_refused-requires : goal.is_question_refused-requires
is_question_refused-requires c =
    let qs = c.args.asked.now in
    let i = c.loop-question.question-index in
    let q = c.question-item.result in
    let next : drop i qs ≡ q ∷ drop (i + 1) qs = drop_more qs i q c.loop-question-test.true ∙ ap (λ x. x ∷ drop (i + 1) qs) (sym c.question-item.is) in
    let d = view c.args.trial.now.value.now in
    let left = subst (λ (xs : List Question). Tallied c.args.trial.now.site.now d qs xs c.loop-question.accepted) next c.loop-question.invariant.tallied in
    let a = c.args.applicator.now in
    let m = reads c.args.trial.now.site.now.matches.now in
    let among = left.among q first in
    record {
      inside = question_inside m a d qs c.requires.asked c.requires.by_answers q among c.args.trial.now.site.now c.requires.inside;
    }

pub loop-question-preserved : goal.loop-question-preserved
loop-question-preserved c =
    let site = c.args.trial.now.site.now in
    let qs = c.args.asked.now in
    let i = c.loop-question.question-index in
    let n = c.loop-question.accepted in
    let few = c.loop-question.invariant.few in
    let q = c.question-item.result in
    let next : drop i qs ≡ q ∷ drop (i + 1) qs = drop_more qs i q c.loop-question-test.true ∙ ap (λ x. x ∷ drop (i + 1) qs) (sym c.question-item.is) in
    let d = view c.args.trial.now.value.now in
    let left = subst (λ (xs : List Question). Tallied site d qs xs n) next c.loop-question.invariant.tallied in
    let answered = c.in_ok-is_question_refused.ensures.refused in
    elim c.if-not-branch.branch [
      | then-not-branch w ↦
          let more = tallied_yes site d qs (drop (i + 1) qs) q n (subst (λ b. IsAnswered site d q (not b)) w.if-not-branch.true answered) left in
          let is : c.if-not-branch.accepted ≡ n + 1 = w.accepted-is in
          record { few = omega (arith, few, is); tallied = subst (λ m. Tallied site d qs (drop (i + 1) qs) m) (sym is) more }
      | else-not-branch w ↦
          let same = tallied_no site d qs (drop (i + 1) qs) q n (subst (λ b. IsAnswered site d q (not b)) w.if-not-branch.false answered) left in
          let is : c.if-not-branch.accepted ≡ n = w.accepted-is in
          record { few = omega (arith, few, is); tallied = subst (λ m. Tallied site d qs (drop (i + 1) qs) m) (sym is) same }
    ]

pub returns-clause-counts : goal.returns-clause-counts
returns-clause-counts c =
    let qs = c.args.asked.now in
    let d = view c.args.trial.now.value.now in
    let nothing : drop c.loop-question.question-index qs ≡ [] = drop_all c.loop-question.question-index qs (omega (arith, c.loop-question-test.false)) in
    let left = subst (λ (xs : List Question). Tallied c.args.trial.now.site.now d qs xs c.loop-question.accepted) nothing c.loop-question.invariant.tallied in
    tallied c.args.trial.now.site.now d c.args.applicator.now qs c.requires.asked c.requires.by_answers c.loop-question.accepted c.args.trial.now.shallow left

pub returns-in_err-is_question_refused-clause-stops : goal.returns-in_err-is_question_refused-clause-stops
returns-in_err-is_question_refused-clause-stops c =
    let qs = c.args.asked.now in
    let i = c.loop-question.question-index in
    let q = c.question-item.result in
    let next : drop i qs ≡ q ∷ drop (i + 1) qs = drop_more qs i q c.loop-question-test.true ∙ ap (λ x. x ∷ drop (i + 1) qs) (sym c.question-item.is) in
    let d = view c.args.trial.now.value.now in
    let left = subst (λ (xs : List Question). Tallied c.args.trial.now.site.now d qs xs c.loop-question.accepted) next c.loop-question.invariant.tallied in
    let e = err_from_is_err_and c.from_residual.result c.from_residual.ensures.1 in
    rw (e.1, e.2) (stops_by _ _ (λ back. one_back c.args.trial.now c.args.applicator.now qs c.requires.asked c.requires.by_answers q (left.among q first) back) _ c.in_err-is_question_refused.ensures.stops)
