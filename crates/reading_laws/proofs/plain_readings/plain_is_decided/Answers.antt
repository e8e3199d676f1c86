use Rattle.reading_laws.proofs.Roots.{plain_is_decided}
use Rattle.reading_laws.proofs.plain_readings.plain_is_decided.Goals as goal

pub returns : goal.returns
returns g c = plain_is_decided _
