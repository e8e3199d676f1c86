use Rattle.meaning_laws.proofs.Others.{certified_by_other_matches}
use Rattle.meaning_laws.proofs.matches.certified_by_other_matches.Goals as goal

pub returns : goal.returns
returns g c = certified_by_other_matches _
