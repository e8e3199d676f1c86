use Rattle.meaning_laws.proofs.Others.{told_by_other_matches}
use Rattle.meaning_laws.proofs.matches.told_by_other_matches.Goals as goal

pub returns : goal.returns
returns g c = told_by_other_matches _ _
