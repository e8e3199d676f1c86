use Rattle.serde_json.specs.View.{view}
use Rattle.schema_reports.specs.Left.{errors_left}
use Rattle.schema_reports.specs.Told.{faults_of}
use Rattle.schema_validators.proofs.Agreeing.{faults_equal}
use Rattle.schema_validators.proofs.agreement.iter_errors_by_both.Goals as goal

pub returns-clause-equal : goal.returns-clause-equal
returns-clause-equal g c = λ p r left right.
    faults_equal p r (view c.args.value.now) (faults_of (errors_left c.in_ok-first.first)) (faults_of (errors_left c.in_ok-second.second))
    (c.in_ok-first.ensures.faults p r left) (c.in_ok-second.ensures.faults p r right)
