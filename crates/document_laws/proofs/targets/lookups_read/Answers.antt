use Rattle.document_laws.proofs.Texts.{lookups_read}
use Rattle.document_laws.proofs.targets.lookups_read.Goals as goal

pub returns : goal.returns
returns c = lookups_read
