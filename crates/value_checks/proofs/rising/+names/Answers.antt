use Rattle.json_values.proofs.Walked.{entries_rise}
use Rattle.value_checks.proofs.rising.+names.Goals as goal

pub members_rise-returns-clause-names : goal.members_rise-returns-clause-names
members_rise-returns-clause-names t c = entries_rise c.args.members.now.entries c.len-count.ensures.ordered
