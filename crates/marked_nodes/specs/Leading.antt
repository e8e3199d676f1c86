-- Which nodes lead to marked ones.
use Rattle.std.specs.Prelude.{ℕ, List}
use Rattle.schema_meaning.specs.Members.{In}
use Rattle.marked_nodes.specs.declared.graph.Edge.{Edge}

-- a chain of edges leads from the node to a marked one, itself included
pub data LeadsTo (edges : List Edge) (marked : List ℕ) : ℕ → Type 0 where
  here : {i : ℕ} → In i marked → LeadsTo edges marked i
  along : (e : Edge) → In e edges → LeadsTo edges marked e.to → LeadsTo edges marked e.from
