use Rattle.added_documents.proofs.Computed.{premises_are_needed}
use Rattle.added_documents.proofs.added_readings.premises_are_needed.Goals as goal

pub returns : goal.returns
returns c = premises_are_needed
