use Rattle.worked_examples.proofs.Lines.{inputs_are_cut}
use Rattle.worked_examples.proofs.documents.inputs_are_cut.Goals as goal

pub returns : goal.returns
returns c = inputs_are_cut
