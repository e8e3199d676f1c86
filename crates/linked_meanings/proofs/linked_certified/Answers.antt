use Rattle.linked_meanings.proofs.LinkedPairs.{linked_certified}
use Rattle.linked_meanings.proofs.linked_certified.Goals as goal

pub returns : goal.returns
returns g c = linked_certified _ _
