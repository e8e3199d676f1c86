use Rattle.document_laws.proofs.Computed.{walk_leads_below}
use Rattle.document_laws.proofs.targets.walk_leads_below.Goals as goal

pub returns : goal.returns
returns c = walk_leads_below
