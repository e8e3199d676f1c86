use Rattle.std.proofs.Common.{◌≡◌, ◌∙◌, sym, ap, subst}
use Rattle.serde_json.specs.View.{view}
use Rattle.schema_meaning.specs.Faults.{is_none}
use Rattle.schema_meaning.specs.Readings.{verdicts}
use Rattle.schema_reports.specs.Left.{errors_left}
use Rattle.schema_reports.specs.Told.{fault_of, faults_of}
use Rattle.schema_registries.specs.Roots.{root_on}
use Rattle.schema_registries.specs.Answers.{IsAnswer}
use Rattle.schema_registries.specs.Certified.{HaveCertificates}
use Rattle.json_schema_validator.proofs.Joining.{first_certified, verdict_told}
use Rattle.json_schema_validator.proofs.checking.check_first.Goals as goal

pub returns-in-None-clause-cut : goal.returns-in-None-clause-cut
returns-in-None-clause-cut g c =
    ap (λ es. is_none (faults_of es)) (sym c.in-None.ensures.steps.0) ∙ ap is_none c.in_ok-errors.ensures.cut ∙ c.in_ok-errors.ensures.agree

pub returns-in-None-clause-verdict : goal.returns-in-None-clause-verdict
returns-in-None-clause-verdict g c = λ p r made.
    let d = view c.args.value.now in
    subst (λ es. IsAnswer verdicts p r d (is_none (faults_of es))) c.in-None.ensures.steps.0
    (verdict_told p r d (faults_of (errors_left c.in_ok-errors.errors)) (c.in_ok-errors.ensures.faults p r made))

pub returns-clause-cut : goal.returns-clause-cut
returns-clause-cut g c =
    ap (λ es. is_none (faults_of es)) (sym c.in-Some.ensures.steps) ∙ ap is_none c.in_ok-errors.ensures.cut ∙ c.in_ok-errors.ensures.agree

pub returns-clause-verdict : goal.returns-clause-verdict
returns-clause-verdict g c = λ p r made.
    let d = view c.args.value.now in
    subst (λ es. IsAnswer verdicts p r d (is_none (faults_of es))) c.in-Some.ensures.steps
    (verdict_told p r d (faults_of (errors_left c.in_ok-errors.errors)) (c.in_ok-errors.ensures.faults p r made))

pub returns-clause-accepted : goal.returns-clause-accepted
returns-clause-accepted g c = λ made.
    let p = g.P.PatternMaker.patterns c.args.maker.now in
    let r = root_on c.args.registry.now c.args.root.now in
    let d = view c.args.value.now in
    let all = subst (λ es. HaveCertificates p r d (faults_of es)) c.in-Some.ensures.steps (c.in_ok-errors.ensures.certified p r made) in
    c.in_ok-answer-in-Some.ensures.accepted made.sound (first_certified p r d (fault_of c.in-Some.error) _ all)
