use Rattle.worked_examples.proofs.CertifiedRows.{certified_hold}
use Rattle.worked_examples.proofs.readings.certified_places.Goals as goal

pub returns : goal.returns
returns c = certified_hold
