-- Where the keywords of a node are asked, while it is sought where a match is asked.
use Rattle.std.specs.Prelude.{ℕ, List}
use Rattle.schema_engine.specs.declared.node.Node.{Node}
use Rattle.schema_engine.specs.declared.validate.Validate.{Ghosts}
use Rattle.schema_engine.specs.Graphs.{rank_at}
use Rattle.schema_engine.specs.Led.{LedTo}
use Rattle.schema_engine.specs.Matches.{Matches}
use Rattle.schema_engine.specs.Places.{value_at}
use Rattle.schema_engine.specs.Progress.{numbers_in}
use Rattle.schema_engine.specs.Questions.{Call}
use Rattle.schema_engine.specs.Verdicts.{size, MayAsk, EachMayAsk}
use Rattle.graph_answers.specs.declared.seeking.There.{There}

module _ {K : Type 0} {G : Ghosts K} where
  abbrev pub nodes_of : There K G → List (Node K)
  nodes_of t = t.graph.now.nodes.items

  -- how deep questions may still go
  abbrev pub size_of : There K G → ℕ
  size_of t = size (nodes_of t) (value_at t.place) (numbers_in t.progress.now) (rank_at (nodes_of t) t.node)

  -- what may be asked there
  abbrev pub MayAskAt : Matches → There K G → Call → Type 0
  MayAskAt m t c = MayAsk m (nodes_of t) (rank_at (nodes_of t) t.node) (value_at t.place) c

  abbrev pub EachMayAskAt : Matches → There K G → List Call → Type 0
  EachMayAskAt m t cs = EachMayAsk m (nodes_of t) (rank_at (nodes_of t) t.node) (value_at t.place) cs

  -- questions lead there
  abbrev pub LedHere : Matches → There K G → Type 0
  LedHere m t = LedTo m t.node (value_at t.place)
