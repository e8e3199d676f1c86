use Rattle.reading_laws.proofs.Alike.{alike_is_equivalence}
use Rattle.reading_laws.proofs.sites.alike_is_equivalence.Goals as goal

pub returns : goal.returns
returns c = alike_is_equivalence
