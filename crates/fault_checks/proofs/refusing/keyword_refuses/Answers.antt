use Rattle.std.proofs.Common.{not, false, ap, refl, sym, subst}
use Rattle.std.proofs.lemmas.Result.{IfOk-weaker, IfErr-weaker}
use Rattle.serde_json.specs.View.{view}
use Rattle.schema_meaning.specs.Questions as asking
use Rattle.plain_reader.specs.Passed.{assertion_of, target_in}
use Rattle.plain_reader.specs.Passed.{row_of}
use Rattle.plain_reader.specs.Passed.{name_of}
use Rattle.fault_checks.specs.Rows.{reference_row, reference_questions}
use Rattle.fault_checks.specs.Verdicts.{rules_by, IsRefusalAt, LiesIn}
use Rattle.fault_checks.proofs.Gathered.{by_questions, by_assertion, by_pattern, by_nothing}
use Rattle.fault_checks.proofs.NamedRefusals.{HasOneName, under_name}
use Rattle.fault_checks.specs.Circles.{KeywordComesBack}
use Rattle.plain_reader.proofs.ReturnLemmas.{stops_by}
use Rattle.fault_checks.proofs.refusing.keyword_refuses.Goals as goal

pub returns-in-Nothing-clause-refuses : goal.returns-in-Nothing-clause-refuses
returns-in-Nothing-clause-refuses c =
    let d = view c.args.trial.now.value.now in
    under_name c.args.trial.now.site.now d c.args.keyword c.args.name.now false (subst HasOneName (sym c.in-Nothing.is) tt)
    (by_nothing c.args.trial.now.site.now d c.args.keyword (λ x s. ap (λ k. rules_by x s d k) c.in-Nothing.is))

pub returns-in_ok-accept-in-Assertion-clause-refuses : goal.returns-in_ok-accept-in-Assertion-clause-refuses
returns-in_ok-accept-in-Assertion-clause-refuses c =
    let a = assertion_of c.in-Assertion.assertion in
    let d = view c.args.trial.now.value.now in
    under_name c.args.trial.now.site.now d c.args.keyword c.args.name.now (not c.in_ok-accept-in-Assertion.field-0) (subst HasOneName (sym c.in-Assertion.is) tt)
    (by_assertion c.args.trial.now.site.now d c.args.keyword a c.in_ok-accept-in-Assertion.field-0 c.in_ok-accept-in-Assertion.ensures (λ x s. ap (λ k. rules_by x s d k) c.in-Assertion.is))

pub returns-in_ok-accepts_text-in-Pattern-clause-refuses : goal.returns-in_ok-accepts_text-in-Pattern-clause-refuses
returns-in_ok-accepts_text-in-Pattern-clause-refuses c =
    let d = view c.args.trial.now.value.now in
    under_name c.args.trial.now.site.now d c.args.keyword c.args.name.now (not c.in_ok-accepts_text-in-Pattern.field-0) (subst HasOneName (sym c.in-Pattern.is) tt)
    (by_pattern c.args.trial.now.site.now d c.args.keyword c.in-Pattern.pattern.now c.in_ok-accepts_text-in-Pattern.field-0 c.in_ok-accepts_text-in-Pattern.ensures (λ x s. ap (λ k. rules_by x s d k) c.in-Pattern.is))

pub applicator_refuses-requires : goal.applicator_refuses-requires
applicator_refuses-requires c = record { applies = subst (LiesIn c.args.trial.now.site.now) c.in-Applicator.is c.requires.lies }

pub returns-in-Applicator-clause-refuses : goal.returns-in-Applicator-clause-refuses
returns-in-Applicator-clause-refuses c =
    IfOk-weaker c.applicator_refuses.result _ _ (λ b h. subst (λ k. IsRefusalAt c.args.trial.now.site.now (view c.args.trial.now.value.now) k c.args.name.now b) (sym c.in-Applicator.is) h) c.applicator_refuses.ensures.refuses

pub condition_refuses-requires : goal.condition_refuses-requires
condition_refuses-requires c = record { lies = subst (LiesIn c.args.trial.now.site.now) c.in-If.is c.requires.lies }

pub returns-in-If-clause-refuses : goal.returns-in-If-clause-refuses
returns-in-If-clause-refuses c =
    IfOk-weaker c.condition_refuses.result _ _ (λ b h. subst (λ k. IsRefusalAt c.args.trial.now.site.now (view c.args.trial.now.value.now) k c.args.name.now b) (sym c.in-If.is) h) c.condition_refuses.ensures.refuses

pub returns-in-Consequent-clause-refuses : goal.returns-in-Consequent-clause-refuses
returns-in-Consequent-clause-refuses c =
    let d = view c.args.trial.now.value.now in
    under_name c.args.trial.now.site.now d c.args.keyword c.args.name.now false (subst HasOneName (sym c.in-Consequent.is) tt)
    (by_nothing c.args.trial.now.site.now d c.args.keyword (λ x s. ap (λ k. rules_by x s d k) c.in-Consequent.is))

pub is_target_refused-requires : goal.is_target_refused-requires
is_target_refused-requires c = record { found = subst (LiesIn c.args.trial.now.site.now) c.in-Reference.is c.requires.lies }

pub returns-in-Reference-clause-refuses : goal.returns-in-Reference-clause-refuses
returns-in-Reference-clause-refuses c =
    let d = view c.args.trial.now.value.now in
    let w = c.in-Reference.by in
    let text = c.in-Reference.text.now in
    let t = target_in c.in-Reference.target in
    IfOk-weaker c.is_target_refused.result _ _
    (λ b h. under_name c.args.trial.now.site.now d c.args.keyword c.args.name.now b (subst HasOneName (sym c.in-Reference.is) tt)
    (by_questions c.args.trial.now.site.now d c.args.keyword (reference_row w text t) (asking.at (name_of w)) (reference_questions w text t) b c.args.trial.now.shallow
    (λ x s. ap (λ k. row_of x.documents s k) c.in-Reference.is) (λ x s. refl) h))
    c.is_target_refused.ensures.refused

pub returns-in-Applicator-clause-stops : goal.returns-in-Applicator-clause-stops
returns-in-Applicator-clause-stops c =
    IfErr-weaker c.applicator_refuses.result _ _ (λ e h. stops_by _ _ (λ back. subst (λ k. KeywordComesBack c.args.trial.now k) (sym c.in-Applicator.is) back) e h) c.applicator_refuses.ensures.stops

pub returns-in-If-clause-stops : goal.returns-in-If-clause-stops
returns-in-If-clause-stops c =
    IfErr-weaker c.condition_refuses.result _ _ (λ e h. stops_by _ _ (λ back. subst (λ k. KeywordComesBack c.args.trial.now k) (sym c.in-If.is) back) e h) c.condition_refuses.ensures.stops

pub returns-in-Reference-clause-stops : goal.returns-in-Reference-clause-stops
returns-in-Reference-clause-stops c =
    IfErr-weaker c.is_target_refused.result _ _ (λ e h. stops_by _ _ (λ back. subst (λ k. KeywordComesBack c.args.trial.now k) (sym c.in-Reference.is) back) e h) c.is_target_refused.ensures.stops
