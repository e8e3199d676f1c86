use Rattle.reading_laws.proofs.Reaching.{alike_have_causes}
use Rattle.reading_laws.proofs.sites.alike_have_causes.Goals as goal

pub returns : goal.returns
returns c = alike_have_causes
