use Rattle.document_laws.proofs.Resting.{rest_is_fixed}
use Rattle.document_laws.proofs.dialect_stages.rest_is_fixed.Goals as goal

pub returns : goal.returns
returns c = rest_is_fixed
