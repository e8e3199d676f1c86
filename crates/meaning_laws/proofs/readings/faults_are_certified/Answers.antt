use Rattle.meaning_laws.proofs.Certified.{faults_are_certified}
use Rattle.meaning_laws.proofs.readings.faults_are_certified.Goals as goal

pub returns : goal.returns
returns g c = faults_are_certified _
