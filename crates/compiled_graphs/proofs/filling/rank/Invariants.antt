use Rattle.std.proofs.Common.{◌≡◌, ◌+◌, length}
use Rattle.compiled_graphs.proofs.filling.rank.Given as goal

abbrev pub invariant-loop-step : goal.invariant-loop-step
invariant-loop-step l = l.rank + length l.path ≡ 18446744073709551615 + length l.rest
