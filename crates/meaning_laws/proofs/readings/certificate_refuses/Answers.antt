use Rattle.meaning_laws.proofs.Refuses.{certificate_refuses}
use Rattle.meaning_laws.proofs.readings.certificate_refuses.Goals as goal

pub returns : goal.returns
returns g c = certificate_refuses _
