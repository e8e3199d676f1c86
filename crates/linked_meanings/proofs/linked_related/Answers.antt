use Rattle.linked_meanings.proofs.LinkedPairs.{linked_related}
use Rattle.linked_meanings.proofs.linked_related.Goals as goal

pub returns : goal.returns
returns g c = linked_related _ _
