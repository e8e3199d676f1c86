-- Roots that lead to no node that is wrong.
use Rattle.std.specs.Prelude.{◌≡◌, ◌<◌, ℕ, List, Bool, true, false, Option, Some, None, IfSome, slice_get}
use Rattle.std.specs.List.{All}
use Rattle.marked_nodes.specs.Sources.{IsWithin}
use Rattle.marked_nodes.specs.declared.graph.Edge.{Edge}

-- a start that is not marked, or none
abbrev pub IsMarked : List Bool → Option ℕ → Option ℕ → Type 0
IsMarked marks None o = o ≡ None
IsMarked marks (Some i) None = slice_get marks i ≡ Some true
IsMarked marks (Some i) (Some j) = (j ≡ i) × (slice_get marks i ≡ Some false)

abbrev pub IsNode : ℕ → Option ℕ → Type 0
IsNode count start = IfSome start (λ i. i < count)

-- all are nodes
pub record AreNodes (count : ℕ) (edges : List Edge) (wrong : List ℕ) (starts : List (Option ℕ)) : Type 0 where
  pub edges_are : All (IsWithin count) edges
  pub wrong_are : All (λ i. i < count) wrong
  pub starts_are : All (IsNode count) starts
