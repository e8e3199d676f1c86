use Rattle.added_documents.proofs.Readings.{answers_stay}
use Rattle.added_documents.proofs.added_readings.answers_stay.Goals as goal

pub returns : goal.returns
returns g c = answers_stay _
