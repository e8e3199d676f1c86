use Rattle.reading_laws.proofs.Nested.{plain_nests}
use Rattle.reading_laws.proofs.plain_readings.plain_nests.Goals as goal

pub returns : goal.returns
returns c = plain_nests
