use Rattle.meaning_laws.proofs.Others.{circular_by_other_matches}
use Rattle.meaning_laws.proofs.matches.circular_by_other_matches.Goals as goal

pub returns : goal.returns
returns g c = circular_by_other_matches _
