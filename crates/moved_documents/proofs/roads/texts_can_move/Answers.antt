use Rattle.moved_documents.proofs.Computed.{texts_can_move}
use Rattle.moved_documents.proofs.roads.texts_can_move.Goals as goal

pub returns : goal.returns
returns c = texts_can_move
