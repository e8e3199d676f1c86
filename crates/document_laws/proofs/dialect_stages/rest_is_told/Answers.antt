use Rattle.document_laws.proofs.Told.{rest_is_told}
use Rattle.document_laws.proofs.dialect_stages.rest_is_told.Goals as goal

pub returns : goal.returns
returns c = rest_is_told
