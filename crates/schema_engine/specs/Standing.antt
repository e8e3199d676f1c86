-- What may be asked from where a node's keywords stand.
use Rattle.std.specs.Prelude.{ℕ, List}
use Rattle.schema_engine.specs.declared.node.Node.{Node}
use Rattle.schema_engine.specs.declared.here.Here.{Here}
use Rattle.schema_engine.specs.declared.validate.Validate.{Ghosts}
use Rattle.schema_engine.specs.Places.{value_at}
use Rattle.schema_engine.specs.Progress.{numbers_in}
use Rattle.schema_engine.specs.Graphs.{rank_at}
use Rattle.schema_engine.specs.Led.{LedTo}
use Rattle.schema_engine.specs.Matches.{Matches}
use Rattle.schema_engine.specs.Questions.{Call}
use Rattle.schema_engine.specs.Verdicts.{size, MayAsk, EachMayAsk}

module _ {K : Type 0} {G : Ghosts K} where
  abbrev pub nodes_of : Here K G → List (Node K)
  nodes_of h = h.graph.now.nodes.items

  -- how deep is enough there
  abbrev pub size_of : Here K G → ℕ
  size_of h = size (nodes_of h) (value_at h.place) (numbers_in h.progress.now) (rank_at (nodes_of h) h.node)

  -- what may be asked there
  abbrev pub MayAskAt : Matches → Here K G → Call → Type 0
  MayAskAt m h c = MayAsk m (nodes_of h) (rank_at (nodes_of h) h.node) (value_at h.place) c

  abbrev pub EachMayAskAt : Matches → Here K G → List Call → Type 0
  EachMayAskAt m h cs = EachMayAsk m (nodes_of h) (rank_at (nodes_of h) h.node) (value_at h.place) cs

  -- questions lead there
  abbrev pub LedHere : Matches → Here K G → Type 0
  LedHere m h = LedTo m h.node (value_at h.place)
