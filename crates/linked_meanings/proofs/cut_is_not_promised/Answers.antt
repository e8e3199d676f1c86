use Rattle.linked_meanings.proofs.CutDiffers.{cut_is_not_promised}
use Rattle.linked_meanings.proofs.cut_is_not_promised.Goals as goal

pub returns : goal.returns
returns c = cut_is_not_promised
