use Rattle.linked_meanings.proofs.RelatedAnswers.{related_alike}
use Rattle.linked_meanings.proofs.related_alike.Goals as goal

pub returns : goal.returns
returns g c by = related_alike _
