use Rattle.worked_examples.proofs.Lines.{lines_are_written}
use Rattle.worked_examples.proofs.documents.lines_are_written.Goals as goal

pub returns : goal.returns
returns c = lines_are_written
