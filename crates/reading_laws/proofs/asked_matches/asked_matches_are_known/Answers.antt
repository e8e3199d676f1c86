use Rattle.reading_laws.proofs.Matched.{asked_matches_are_known}
use Rattle.reading_laws.proofs.asked_matches.asked_matches_are_known.Goals as goal

pub returns : goal.returns
returns c = asked_matches_are_known
