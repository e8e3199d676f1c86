use Rattle.meaning_laws.proofs.MatchLemmas.{rules_read_their_matches}
use Rattle.meaning_laws.proofs.readings.rules_read_their_matches.Goals as goal

pub returns : goal.returns
returns g c = rules_read_their_matches _
