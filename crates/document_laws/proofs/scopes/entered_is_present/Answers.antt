use Rattle.document_laws.proofs.Keys.{entered_is_present}
use Rattle.document_laws.proofs.scopes.entered_is_present.Goals as goal

pub returns : goal.returns
returns c = entered_is_present
