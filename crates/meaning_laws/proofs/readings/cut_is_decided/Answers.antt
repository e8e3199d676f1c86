use Rattle.meaning_laws.proofs.Decided.{cut_is_decided}
use Rattle.meaning_laws.proofs.readings.cut_is_decided.Goals as goal

pub returns : goal.returns
returns g c = cut_is_decided _ _
