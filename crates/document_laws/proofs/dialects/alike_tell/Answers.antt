use Rattle.document_laws.proofs.Alike.{alike_tell}
use Rattle.document_laws.proofs.dialects.alike_tell.Goals as goal

pub returns : goal.returns
returns c = alike_tell
