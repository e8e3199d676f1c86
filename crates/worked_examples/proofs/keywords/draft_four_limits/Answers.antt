use Rattle.worked_examples.proofs.DraftFourLimitsRows.{draft_four_limits_hold}
use Rattle.worked_examples.proofs.keywords.draft_four_limits.Goals as goal

pub returns : goal.returns
returns c = draft_four_limits_hold
