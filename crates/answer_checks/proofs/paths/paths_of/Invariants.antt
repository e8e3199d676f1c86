use Rattle.std.proofs.Common.{map}
use Rattle.answer_checks.specs.Paths.{path_bytes}
use Rattle.answer_checks.proofs.Reading.{SoFar}
use Rattle.answer_checks.proofs.paths.paths_of.Given as goal

abbrev pub invariant-loop-item : goal.invariant-loop-item
invariant-loop-item l = SoFar l.item-items l.item-index (map path_bytes l.paths.items)
