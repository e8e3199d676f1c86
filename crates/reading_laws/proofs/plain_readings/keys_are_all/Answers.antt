use Rattle.reading_laws.proofs.PlainKeys.{keys_are_all}
use Rattle.reading_laws.proofs.plain_readings.keys_are_all.Goals as goal

pub returns : goal.returns
returns c = keys_are_all
