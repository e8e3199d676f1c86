use Rattle.meaning_laws.proofs.Verdicts.{cut_agrees}
use Rattle.meaning_laws.proofs.readings.cut_agrees.Goals as goal

pub returns : goal.returns
returns g c = cut_agrees _
