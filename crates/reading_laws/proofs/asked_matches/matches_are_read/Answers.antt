use Rattle.reading_laws.proofs.Matched.{matches_are_read}
use Rattle.reading_laws.proofs.asked_matches.matches_are_read.Goals as goal

pub returns : goal.returns
returns c = matches_are_read
