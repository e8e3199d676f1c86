use Rattle.worked_examples.proofs.MatchesRows.{matches_hold}
use Rattle.worked_examples.proofs.keywords.matches.Goals as goal

pub returns : goal.returns
returns c = matches_hold
