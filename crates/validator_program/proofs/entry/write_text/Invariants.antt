use Rattle.std.proofs.Common.{length}
use Rattle.validator_program.proofs.entry.write_text.Given as goal

abbrev pub decreases-loop-rest : goal.decreases-loop-rest
decreases-loop-rest g l = length l.rest
