use Rattle.std.proofs.Common.{◌≡◌, ◌+◌, ◌*◌, []}
use Rattle.serde_json.specs.View.{view}
use Rattle.schema_engine.specs.Graphs.{rank_at}
use Rattle.schema_engine.specs.Places.{value_at}
use Rattle.schema_engine.specs.Progress.{numbers_in}
use Rattle.schema_engine.specs.Verdicts.{size}
use Rattle.graph_answers.specs.Seeking.{size_of}
use Rattle.graph_answers.proofs.seeking.+seeking.Given as goal

abbrev pub decreases-seek_value : goal.decreases-seek_value
decreases-seek_value g l = 7 * size l.graph.now.nodes.items (view l.situation.value.now) [] (rank_at l.graph.now.nodes.items l.node) + 6

abbrev pub decreases-seek_node : goal.decreases-seek_node
decreases-seek_node g l = 7 * size l.graph.now.nodes.items (value_at l.place) (numbers_in l.progress.now) (rank_at l.graph.now.nodes.items l.node) + 5

abbrev pub decreases-seek_keyword : goal.decreases-seek_keyword
decreases-seek_keyword g l = 7 * size_of l.there.now + 4

abbrev pub decreases-seek_each : goal.decreases-seek_each
decreases-seek_each g l = 7 * size_of l.there.now + 3

abbrev pub decreases-seek_question : goal.decreases-seek_question
decreases-seek_question g l = 7 * size_of l.there.now + 2

abbrev pub decreases-seek_step : goal.decreases-seek_step
decreases-seek_step g l = 7 * size_of l.there.now + 1

abbrev pub decreases-seek_here : goal.decreases-seek_here
decreases-seek_here g l = 7 * size_of l.there.now

abbrev pub invariant-seek_node-loop-keyword : goal.invariant-seek_node-loop-keyword
invariant-seek_node-loop-keyword g l = record {
  matches : g.T.Matching.matches l.matching ≡ g.T.Matching.matches l.fn.matching;
  questions : l.questions.items ≡ l.fn.questions.items;
}

abbrev pub invariant-seek_each-loop-index : goal.invariant-seek_each-loop-index
invariant-seek_each-loop-index g l = record {
  matches : g.T.Matching.matches l.matching ≡ g.T.Matching.matches l.fn.matching;
  questions : l.questions.items ≡ l.fn.questions.items;
}
