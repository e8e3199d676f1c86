use Rattle.meaning_laws.proofs.Unfolded.{unfolded_is_told}
use Rattle.meaning_laws.proofs.readings.unfolded_is_told.Goals as goal

pub returns : goal.returns
returns g c = unfolded_is_told _ _
