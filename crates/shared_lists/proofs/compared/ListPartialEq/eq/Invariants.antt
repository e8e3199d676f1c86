use Rattle.std.proofs.Common.{◌≡◌, length}
use Rattle.std.specs.Cmp.Lexicographic.{pointwise}
use Rattle.shared_lists.proofs.compared.ListPartialEq.eq.Given as goal

abbrev pub invariant-loop-mine : goal.invariant-loop-mine
invariant-loop-mine g l = pointwise g.T.PartialEq.eq l.left l.right ≡ pointwise g.T.PartialEq.eq l.initial.left l.initial.right

abbrev pub decreases-loop-mine : goal.decreases-loop-mine
decreases-loop-mine g l = length l.left
