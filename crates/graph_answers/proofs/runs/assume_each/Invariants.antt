use Rattle.std.proofs.Common.{◌≡◌, [], true, false}
use Rattle.serde_json.specs.View.{view}
use Rattle.schema_engine.specs.Matches.{Answers, completed}
use Rattle.graph_answers.specs.Completions.{matches_with, start_at}
use Rattle.graph_answers.specs.Runs.{is_left, verdict_in}
use Rattle.graph_answers.proofs.RunCounts.{Counts}
use Rattle.graph_answers.proofs.runs.assume_each.Given as goal

abbrev pub invariant-loop-made : goal.invariant-loop-made
invariant-loop-made g l = record {
  left : (rest : Answers) → is_left l.assumed.items rest ≡ false
      → verdict_in g.K.Validate.shape l.graph.nodes.items l.start (view l.value) (completed (matches_with g.M.PatternMatcher.finds l.table []) rest) ≡ true;
  counts : Counts (matches_with g.M.PatternMatcher.finds l.table []) (start_at g.K.Validate.shape l.graph.nodes.items l.start (view l.value)) l.made l.assumed.items;
}
