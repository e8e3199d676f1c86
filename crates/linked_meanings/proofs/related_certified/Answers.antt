use Rattle.linked_meanings.proofs.Certified.{related_certified}
use Rattle.linked_meanings.proofs.related_certified.Goals as goal

pub returns : goal.returns
returns g c by = related_certified _
