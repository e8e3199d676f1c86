use Rattle.document_laws.proofs.Looked.{lookups_alone_tell}
use Rattle.document_laws.proofs.lookups.lookups_alone_tell.Goals as goal

pub returns : goal.returns
returns c = lookups_alone_tell
