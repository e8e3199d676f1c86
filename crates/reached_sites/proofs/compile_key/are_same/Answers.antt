use Rattle.document_index.proofs.SameLemmas.{equal_decides}
use Rattle.reached_sites.proofs.compile_key.are_same.Goals as goal

pub returns : goal.returns
returns c = equal_decides c.args.one c.args.other c.eq.result c.eq.ensures
