use Rattle.worked_examples.proofs.TextsRows.{texts_hold}
use Rattle.worked_examples.proofs.keywords.texts.Goals as goal

pub returns : goal.returns
returns c = texts_hold
