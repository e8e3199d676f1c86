use Rattle.std.proofs.Common.{length}
use Rattle.schema_steps.proofs.display.+show_slashes.Given as goal

abbrev pub decreases-show_slashes : goal.decreases-show_slashes
decreases-show_slashes g l = length l.text.now
