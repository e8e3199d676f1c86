use Rattle.moved_documents.proofs.LeftBehind.{leaves_out_is_needed}
use Rattle.moved_documents.proofs.roads.leaves_out_is_needed.Goals as goal

pub returns : goal.returns
returns c = leaves_out_is_needed
