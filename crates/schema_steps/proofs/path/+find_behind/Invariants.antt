use Rattle.std.proofs.Common.{length}
use Rattle.schema_steps.proofs.path.+find_behind.Given as goal

abbrev pub decreases-find_behind : goal.decreases-find_behind
decreases-find_behind l = length l.steps
