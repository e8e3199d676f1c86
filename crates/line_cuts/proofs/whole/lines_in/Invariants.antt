use Rattle.std.proofs.Common.{◌≡◌, ◌++◌, length, map}
use Rattle.line_cuts.specs.Cuts.{lines_of}
use Rattle.line_cuts.proofs.whole.lines_in.Given as goal

-- the lines so far, and those of the rest
abbrev pub invariant-loop-line : goal.invariant-loop-line
invariant-loop-line l = lines_of l.fn.bytes ≡ map (λ s. s.now) l.lines.items ++ lines_of l.rest

abbrev pub decreases-loop-line : goal.decreases-loop-line
decreases-loop-line l = length l.rest
