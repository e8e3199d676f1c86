use Rattle.linked_meanings.proofs.LinkedPairs.{linked_alike}
use Rattle.linked_meanings.proofs.linked_alike.Goals as goal

pub returns : goal.returns
returns g c = linked_alike _ _
