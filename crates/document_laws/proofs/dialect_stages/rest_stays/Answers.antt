use Rattle.document_laws.proofs.Resting.{rest_stays}
use Rattle.document_laws.proofs.dialect_stages.rest_stays.Goals as goal

pub returns : goal.returns
returns c = rest_stays
