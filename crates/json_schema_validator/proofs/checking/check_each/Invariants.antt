use Rattle.std.proofs.Common.{◌≡◌, ◌+◌, ◌++◌, length, option_copied}
use Rattle.serde_json.specs.View.{view}
use Rattle.schema_reports.specs.Left.{errors_left}
use Rattle.schema_reports.specs.Told.{faults_of}
use Rattle.schema_registries.specs.Roots.{Patterns, IsSound, root_on}
use Rattle.schema_registries.specs.Certified.{HaveCertificates}
use Rattle.fault_checks.specs.Checked.{AreReadIn}
use Rattle.json_schema_validator.specs.Joined.{WhereStraight, each_accepted, fault_count}
use Rattle.json_schema_validator.proofs.checking.check_each.Given as goal

-- those that are left are certified where all are, and those before are accepted; and each of them is answered
abbrev pub invariant-loop-error : goal.invariant-loop-error
invariant-loop-error l = record {
  counted : length l.answers.items + fault_count (faults_of (errors_left l.error-iterator)) ≡ fault_count (faults_of (errors_left l.initial.error-iterator));
  certified : (p : Patterns) → HaveCertificates p (root_on l.registry l.root) (view l.value) (faults_of (errors_left l.initial.error-iterator))
      → HaveCertificates p (root_on l.registry l.root) (view l.value) (faults_of (errors_left l.error-iterator));
  accepted : (p : Patterns) → AreReadIn p (root_on l.registry l.root) (view l.value) (option_copied l.matches) → IsSound p (root_on l.registry l.root)
      → HaveCertificates p (root_on l.registry l.root) (view l.value) (faults_of (errors_left l.initial.error-iterator))
      → WhereStraight p (root_on l.registry l.root) (view l.value) (l.answers.items ++ each_accepted (faults_of (errors_left l.error-iterator)) ≡ each_accepted (faults_of (errors_left l.initial.error-iterator)));
}
