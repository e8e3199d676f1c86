use Rattle.std.proofs.Common.{length}
use Rattle.schema_steps.proofs.display.+show_escaped.Given as goal

abbrev pub decreases-show_escaped : goal.decreases-show_escaped
decreases-show_escaped g l = length l.text.now
