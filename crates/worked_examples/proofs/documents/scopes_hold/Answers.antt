use Rattle.worked_examples.proofs.Scopes.{scopes_hold}
use Rattle.worked_examples.proofs.documents.scopes_hold.Goals as goal

pub returns : goal.returns
returns c = scopes_hold
