use Rattle.linked_meanings.proofs.Moved.{related_alike_moved}
use Rattle.linked_meanings.proofs.related_alike_moved.Goals as goal

pub returns : goal.returns
returns g c by = related_alike_moved _
