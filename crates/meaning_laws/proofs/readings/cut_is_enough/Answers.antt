use Rattle.meaning_laws.proofs.Enough.{cut_is_enough}
use Rattle.meaning_laws.proofs.readings.cut_is_enough.Goals as goal

pub returns : goal.returns
returns g c = cut_is_enough _ _
