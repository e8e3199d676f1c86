use Rattle.reading_laws.proofs.Reading.{alike_read_alike}
use Rattle.reading_laws.proofs.sites.alike_read_alike.Goals as goal

pub returns : goal.returns
returns c = alike_read_alike
