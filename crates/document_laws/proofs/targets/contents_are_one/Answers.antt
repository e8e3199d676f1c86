use Rattle.document_laws.proofs.One.{contents_are_one}
use Rattle.document_laws.proofs.targets.contents_are_one.Goals as goal

pub returns : goal.returns
returns c = contents_are_one
