use Rattle.linked_meanings.proofs.RelatedAnswers.{related_alike_but_for_paths}
use Rattle.linked_meanings.proofs.related_alike_but_for_paths.Goals as goal

pub returns : goal.returns
returns g c by = related_alike_but_for_paths _
