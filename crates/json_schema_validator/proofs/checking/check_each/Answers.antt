use Rattle.std.proofs.Common.{◌≡◌, ◌∙◌, ◌+◌, ◌++◌, length, ap, sym, subst, append-nil, add-zero}
use Rattle.serde_json.specs.View.{view}
use Rattle.schema_reports.specs.Left.{errors_left}
use Rattle.schema_reports.specs.Told.{fault_of, faults_of}
use Rattle.schema_registries.specs.Roots.{root_on}
use Rattle.schema_registries.specs.Certified.{HaveCertificates}
use Rattle.json_schema_validator.specs.Joined.{each_accepted, fault_count}
use Rattle.json_schema_validator.proofs.Joining.{fault_accepted, first_certified, rest_certified, one_accepted, one_counted}
use Rattle.json_schema_validator.proofs.checking.check_each.Goals as goal

pub loop-error-preserved : goal.loop-error-preserved
loop-error-preserved c =
    let r = root_on c.args.registry.now c.args.root.now in
    let d = view c.args.value.now in
    let l = c.loop-error in
    let rest = faults_of (errors_left c.next.new.self) in
    let fault = fault_of c.in-Some.error in
    record {
      counted = one_counted l.answers.items c.push.new.self.items c.in_ok-answer.answer (fault_count rest) _ c.in_ok-push.ensures.items
          (subst (λ es. length l.answers.items + fault_count (faults_of es) ≡ fault_count (faults_of (errors_left c.into_iter-error-iterator.result))) c.in-Some.ensures.steps
          l.invariant.counted);
      certified = λ p all. rest_certified p r d fault rest (subst (λ es. HaveCertificates p r d (faults_of es)) c.in-Some.ensures.steps (l.invariant.certified p all));
      accepted = λ p read sound all matches target found finish straight.
          let left = subst (λ es. HaveCertificates p r d (faults_of es)) c.in-Some.ensures.steps (l.invariant.certified p all) in
          let is = fault_accepted p r d fault c.in_ok-answer.answer (c.in_ok-answer.ensures p read sound) (first_certified p r d fault rest left) matches target found finish straight in
          one_accepted l.answers.items c.push.new.self.items c.in_ok-answer.answer (each_accepted rest) _ c.in_ok-push.ensures.items is
          (subst (λ es. l.answers.items ++ each_accepted (faults_of es) ≡ each_accepted (faults_of (errors_left c.into_iter-error-iterator.result))) c.in-Some.ensures.steps
          (l.invariant.accepted p read sound all matches target found finish straight));
    }

pub returns-clause-count : goal.returns-clause-count
returns-clause-count c =
    let l = c.loop-error in
    let same = c.into_iter-error-iterator.ensures.into_iter_gives in
    let whole = subst (λ es. length l.answers.items + fault_count (faults_of es) ≡ fault_count (faults_of (errors_left c.into_iter-error-iterator.result))) c.in-None.ensures.steps.0 l.invariant.counted in
    sym (add-zero (length l.answers.items)) ∙ whole ∙ ap (λ errors. fault_count (faults_of (errors_left errors))) same

pub returns-clause-accepted : goal.returns-clause-accepted
returns-clause-accepted c =
    let r = root_on c.args.registry.now c.args.root.now in
    let d = view c.args.value.now in
    let l = c.loop-error in
    let same = c.into_iter-error-iterator.ensures.into_iter_gives in
    λ p read sound all matches target found finish straight.
    let there = subst (λ errors. HaveCertificates p r d (faults_of (errors_left errors))) (sym same) all in
    let whole = subst (λ es. l.answers.items ++ each_accepted (faults_of es) ≡ each_accepted (faults_of (errors_left c.into_iter-error-iterator.result))) c.in-None.ensures.steps.0
    (l.invariant.accepted p read sound there matches target found finish straight) in
    sym (append-nil l.answers.items) ∙ whole ∙ ap (λ errors. each_accepted (faults_of (errors_left errors))) same
