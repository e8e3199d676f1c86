use Rattle.document_laws.proofs.Same.{told_alike_is_same}
use Rattle.document_laws.proofs.dialect_stages.told_alike_is_same.Goals as goal

pub returns : goal.returns
returns c = told_alike_is_same
