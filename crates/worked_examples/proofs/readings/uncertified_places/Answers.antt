use Rattle.worked_examples.proofs.NotCertifiedRows.{not_certified_hold}
use Rattle.worked_examples.proofs.readings.uncertified_places.Goals as goal

pub returns : goal.returns
returns c = not_certified_hold
