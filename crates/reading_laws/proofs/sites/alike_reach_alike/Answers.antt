use Rattle.reading_laws.proofs.Reaching.{alike_reach_alike}
use Rattle.reading_laws.proofs.sites.alike_reach_alike.Goals as goal

pub returns : goal.returns
returns c = alike_reach_alike
