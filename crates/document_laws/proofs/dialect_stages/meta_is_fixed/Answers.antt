use Rattle.document_laws.proofs.Told.{meta_is_fixed}
use Rattle.document_laws.proofs.dialect_stages.meta_is_fixed.Goals as goal

pub returns : goal.returns
returns c = meta_is_fixed
