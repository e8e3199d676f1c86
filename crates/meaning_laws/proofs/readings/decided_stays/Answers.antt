use Rattle.meaning_laws.proofs.Stays.{decided_stays}
use Rattle.meaning_laws.proofs.readings.decided_stays.Goals as goal

pub returns : goal.returns
returns g c = decided_stays _ _
