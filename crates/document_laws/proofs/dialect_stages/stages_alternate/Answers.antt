use Rattle.document_laws.proofs.Computed.{stages_alternate}
use Rattle.document_laws.proofs.dialect_stages.stages_alternate.Goals as goal

pub returns : goal.returns
returns c = stages_alternate
