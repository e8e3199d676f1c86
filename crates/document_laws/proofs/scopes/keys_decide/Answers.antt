use Rattle.document_laws.proofs.Keys.{keys_decide}
use Rattle.document_laws.proofs.scopes.keys_decide.Goals as goal

pub returns : goal.returns
returns c = keys_decide
