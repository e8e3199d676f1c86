use Rattle.linked_meanings.proofs.LinkedPairs.{linked_alike_but_for_paths}
use Rattle.linked_meanings.proofs.linked_alike_but_for_paths.Goals as goal

pub returns : goal.returns
returns g c = linked_alike_but_for_paths _ _
