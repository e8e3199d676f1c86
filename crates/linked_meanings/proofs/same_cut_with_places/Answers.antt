use Rattle.linked_meanings.proofs.RelatedCut.{same_cut_with_places}
use Rattle.linked_meanings.proofs.same_cut_with_places.Goals as goal

pub returns : goal.returns
returns g c by = same_cut_with_places _
