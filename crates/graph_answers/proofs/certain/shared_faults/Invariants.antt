use Rattle.std.proofs.Common.{◌≡◌, [], true, false, IfSome}
use Rattle.serde_json.specs.View.{view}
use Rattle.schema_meaning.specs.Faults.{Fault, Told}
use Rattle.error_kinds.specs.Floats.{fault_has_float}
use Rattle.schema_reports.specs.Told.{are_proper}
use Rattle.schema_engine.specs.Matches.{Answers, InEach, completed}
use Rattle.graph_answers.specs.Certain.{faults_in}
use Rattle.graph_answers.specs.Completions.{matches_with, start_at}
use Rattle.graph_answers.specs.Runs.{is_left}
use Rattle.graph_answers.proofs.CertainLemmas.{Held, IsHeld}
use Rattle.graph_answers.proofs.DecidedRuns.{DecidedBeside}
use Rattle.graph_answers.proofs.RunCounts.{Counts}
use Rattle.graph_answers.proofs.certain.shared_faults.Given as goal

abbrev pub invariant-loop-made : goal.invariant-loop-made
invariant-loop-made g l = record {
  told : (rest : Answers) → is_left l.assumed.items rest ≡ false
      → Held l.shared (faults_in g.K.Validate.shape l.graph.nodes.items l.start (view l.value) (completed (matches_with g.M.PatternMatcher.finds l.table []) rest));
  all : (f : Fault) → fault_has_float f ≡ false
      → InEach (matches_with g.M.PatternMatcher.finds l.table []) (λ reads. Told f (faults_in g.K.Validate.shape l.graph.nodes.items l.start (view l.value) reads)) → IsHeld l.shared f;
  decided : DecidedBeside g.K.Validate.shape l.graph.nodes.items l.start (view l.value) g.M.PatternMatcher.finds l.table l.decision (λ rest. is_left l.assumed.items rest);
  proper : IfSome l.shared (λ es. are_proper es.items ≡ true);
  counts : Counts (matches_with g.M.PatternMatcher.finds l.table []) (start_at g.K.Validate.shape l.graph.nodes.items l.start (view l.value)) l.made l.assumed.items;
}
