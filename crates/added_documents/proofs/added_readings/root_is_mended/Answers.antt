use Rattle.added_documents.proofs.Computed.{root_is_mended}
use Rattle.added_documents.proofs.added_readings.root_is_mended.Goals as goal

pub returns : goal.returns
returns c = root_is_mended
