use Rattle.worked_examples.proofs.Vocabularies.{vocabularies_hold}
use Rattle.worked_examples.proofs.documents.vocabularies_hold.Goals as goal

pub returns : goal.returns
returns c = vocabularies_hold
