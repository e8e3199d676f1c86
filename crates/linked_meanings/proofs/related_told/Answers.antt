use Rattle.linked_meanings.proofs.Certified.{related_told}
use Rattle.linked_meanings.proofs.related_told.Goals as goal

pub returns : goal.returns
returns g c by = related_told _
