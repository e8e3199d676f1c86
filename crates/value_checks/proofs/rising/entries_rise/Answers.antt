use Rattle.json_values.proofs.Walked.{entries_rise}
use Rattle.value_checks.proofs.rising.entries_rise.Goals as goal

pub returns : goal.returns
returns c = entries_rise c.args.members.now.entries c.len-count.ensures.ordered
