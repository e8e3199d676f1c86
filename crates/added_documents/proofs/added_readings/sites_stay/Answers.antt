use Rattle.added_documents.proofs.Sites.{sites_stay}
use Rattle.added_documents.proofs.added_readings.sites_stay.Goals as goal

pub returns : goal.returns
returns c = sites_stay
