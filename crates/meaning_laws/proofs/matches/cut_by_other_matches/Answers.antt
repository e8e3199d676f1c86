use Rattle.meaning_laws.proofs.Others.{cut_by_other_matches}
use Rattle.meaning_laws.proofs.matches.cut_by_other_matches.Goals as goal

pub returns : goal.returns
returns g c = cut_by_other_matches _ _
