use Rattle.std.proofs.Common.{◌+◌, length}
use Rattle.marked_nodes.specs.Marking.{unmarked}
use Rattle.marked_nodes.proofs.Spreading.{Spread}
use Rattle.marked_nodes.proofs.leading.leading_to.Given as goal

abbrev pub invariant-loop-node : goal.invariant-loop-node
invariant-loop-node l = Spread l.edges l.marked l.count l.leading.items l.waiting.items

abbrev pub decreases-loop-node : goal.decreases-loop-node
decreases-loop-node l = unmarked l.leading.items + length l.waiting.items
