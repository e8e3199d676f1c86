use Rattle.meaning_laws.proofs.Verdicts.{faults_tell_verdict}
use Rattle.meaning_laws.proofs.readings.faults_tell_verdict.Goals as goal

pub returns : goal.returns
returns g c = faults_tell_verdict _
