use Rattle.worked_examples.proofs.NoOtherMembersRows.{no_other_members_hold}
use Rattle.worked_examples.proofs.keywords.no_other_members.Goals as goal

pub returns : goal.returns
returns c = no_other_members_hold
