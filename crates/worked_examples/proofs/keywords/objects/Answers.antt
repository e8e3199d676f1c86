use Rattle.worked_examples.proofs.ObjectsRows.{objects_hold}
use Rattle.worked_examples.proofs.keywords.objects.Goals as goal

pub returns : goal.returns
returns c = objects_hold
