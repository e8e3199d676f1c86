use Rattle.worked_examples.proofs.MemberNamesRows.{member_names_hold}
use Rattle.worked_examples.proofs.keywords.member_names.Goals as goal

pub returns : goal.returns
returns c = member_names_hold
