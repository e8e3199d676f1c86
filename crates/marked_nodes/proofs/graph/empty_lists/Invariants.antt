use Rattle.std.proofs.Common.{◌≡◌, [], ℕ, Global, length}
use Rattle.std.specs.List.{All}
use Rattle.std.specs.declared.vec.Vec.{Vec}
use Rattle.marked_nodes.proofs.graph.empty_lists.Given as goal

abbrev pub invariant-loop : goal.invariant-loop
invariant-loop l = record { len : length l.lists.items ≡ l.counter; empty : All (λ (w : Vec ℕ Global). w.items ≡ []) l.lists.items }
