use Rattle.meaning_laws.proofs.MatchesAlike.{cut_by_matches}
use Rattle.meaning_laws.proofs.matches.cut_by_matches.Goals as goal

pub returns : goal.returns
returns g c = cut_by_matches _ _
