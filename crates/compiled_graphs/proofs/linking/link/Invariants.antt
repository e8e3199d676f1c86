use Rattle.std.specs.Vec.Iter.{into_iter_items}
use Rattle.compiled_graphs.proofs.Edges.{Linking}
use Rattle.compiled_graphs.proofs.linking.link.Given as goal

abbrev pub invariant-loop-lead : goal.invariant-loop-lead
invariant-loop-lead l =
    Linking l.from l.initial.visits.list.items l.visits.list.items (into_iter_items l.initial.lead-iterator) (into_iter_items l.lead-iterator) l.initial.edges.items l.edges.items l.numbers.items
