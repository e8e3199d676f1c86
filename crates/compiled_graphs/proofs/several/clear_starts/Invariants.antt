use Rattle.std.proofs.Common.{List, ℕ, Option, ◌++◌}
use Rattle.std.specs.List.{All, AllZip}
use Rattle.std.specs.Prelude.{length}
use Rattle.std.specs.Vec.Iter.{into_iter_items}
use Rattle.compiled_graphs.specs.Marked.{IsMarked, IsNode}
use Rattle.compiled_graphs.proofs.several.clear_starts.Given as goal

abbrev pub invariant-loop-start : goal.invariant-loop-start
invariant-loop-start l = record {
  marked : (bs : List (Option ℕ)) → AllZip (IsMarked l.marks) (into_iter_items l.start-iterator) bs → AllZip (IsMarked l.marks) (into_iter_items l.initial.start-iterator) (l.clear.items ++ bs);
  nodes : All (IsNode (length l.marks)) (into_iter_items l.start-iterator);
}
