use Rattle.std.proofs.Common.{length}
use Rattle.schema_steps.proofs.display.+show_behind.Given as goal

abbrev pub decreases-show_behind : goal.decreases-show_behind
decreases-show_behind g l = length l.steps
