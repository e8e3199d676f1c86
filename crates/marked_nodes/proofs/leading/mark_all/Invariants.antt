use Rattle.std.proofs.Common.{take}
use Rattle.marked_nodes.specs.Marking.{Marks}
use Rattle.marked_nodes.proofs.leading.mark_all.Given as goal

abbrev pub invariant-loop-node : goal.invariant-loop-node
invariant-loop-node l = Marks (take l.node-index l.nodes) l.initial.leading.items l.leading.items l.initial.waiting.items l.waiting.items
