-- Where the edges to a node come from.
use Rattle.std.specs.Prelude.{◌≡◌, ℕ, ◌<◌, ◌==◌, List, Some, map, filter, slice_get}
use Rattle.std.specs.declared.alloc.Global.{Global}
use Rattle.std.specs.declared.vec.Vec.{Vec}
use Rattle.marked_nodes.specs.declared.graph.Edge.{Edge}

-- both ends are among so many nodes
abbrev pub IsWithin : ℕ → Edge → Type 0
IsWithin count e = (e.from < count) × (e.to < count)

-- the nodes that have an edge to a node, in the order of the edges
abbrev pub sources_of : List Edge → ℕ → List ℕ
sources_of edges node = map (λ e. e.from) (filter (λ e. e.to == node) edges)

-- each node's list holds the nodes that have an edge to it
abbrev pub HoldsSources : List Edge → List (Vec ℕ Global) → Type 0
HoldsSources edges lists = (i : ℕ) (list : Vec ℕ Global) → slice_get lists i ≡ Some list → list.items ≡ sources_of edges i
