use Rattle.line_cuts.specs.Cuts.{pieces}
use Rattle.line_runs.proofs.Ends.{ended_is}
use Rattle.line_runs.proofs.running.lines_are_ended.Goals as goal

pub returns : goal.returns
returns c = ended_is (pieces c.args.input.now)
