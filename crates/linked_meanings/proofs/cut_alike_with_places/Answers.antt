use Rattle.linked_meanings.proofs.RelatedCut.{cut_alike_with_places}
use Rattle.linked_meanings.proofs.cut_alike_with_places.Goals as goal

pub returns : goal.returns
returns g c by = cut_alike_with_places _
