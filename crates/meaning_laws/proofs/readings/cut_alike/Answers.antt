use Rattle.meaning_laws.proofs.Alike.{cut_alike}
use Rattle.meaning_laws.proofs.readings.cut_alike.Goals as goal

pub returns : goal.returns
returns g c = cut_alike _ _
