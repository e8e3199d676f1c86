use Rattle.document_index.proofs.SameLemmas.{equal_decides}
use Rattle.document_index.proofs.stages.are_same.Goals as goal

pub returns : goal.returns
returns c = equal_decides c.args.left c.args.right c.eq.result c.eq.ensures
