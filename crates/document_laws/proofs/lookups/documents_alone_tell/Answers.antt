use Rattle.document_laws.proofs.Alone.{documents_alone_tell}
use Rattle.document_laws.proofs.lookups.documents_alone_tell.Goals as goal

pub returns : goal.returns
returns c = documents_alone_tell
