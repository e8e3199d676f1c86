-- What is decided is the verdict of the documents that a graph means.
use Rattle.std.proofs.Common.{ℕ, List, [], Bool, Option, subst}
use Rattle.serde_json.specs.Data.{Data}
use Rattle.schema_meaning.specs.Keywords.{Shape}
use Rattle.schema_patterns.specs.declared.table.PatternTable.{PatternTable}
use Rattle.schema_engine.specs.Graphs.{IsSound}
use Rattle.schema_engine.specs.Matches.{Answers, completed, none_matched}
use Rattle.schema_engine.specs.declared.node.Node.{Node}
use Rattle.graph_answers.specs.Answers.{IsVerdict}
use Rattle.graph_answers.specs.Completions.{matches_with}
use Rattle.graph_answers.specs.Runs.{verdict_in, IsDecision, IsVerdictOf}
use Rattle.graph_answers.specs.declared.runs.Decision.{Decision}
use Rattle.graph_answers.specs.declared.runs.Decision.TheVariants as decision
use Rattle.graph_answers.proofs.Chains.{none_of_six}
use Rattle.graph_answers.proofs.Joined.{told_by_other}
use Rattle.graph_answers.proofs.TableReads.{same_in_each}

module _ {K M : Type 0} (shape : K → Shape ℕ) (finds : M → List ℕ → Option Bool) (nodes : List (Node K)) (table : PatternTable M) (start : ℕ) (d : Data) (sound : IsSound shape nodes) where
  -- the verdict of each completion is that of the documents
  in_each : (rest : Answers) → IsVerdict shape finds nodes table start d (verdict_in shape nodes start d (completed (matches_with finds table []) rest))
  unfolding verdict_in
  in_each rest docs makes matches root h =
      told_by_other shape finds nodes table start d sound docs makes matches root h (completed (matches_with finds table []) rest)
      (same_in_each finds table docs makes matches root d h.finished h.made h.among h.finish rest)

  pub verdict_of : (a : Decision) → IsDecision shape nodes start d (matches_with finds table []) a → IsVerdictOf shape finds nodes table start d a
  verdict_of decision.Accepted accepts = subst (IsVerdict shape finds nodes table start d) (accepts none_matched) (in_each none_matched)
  verdict_of decision.Refused refuses = subst (IsVerdict shape finds nodes table start d) refuses.1 (in_each refuses.0)
  verdict_of decision.Undecided six = λ docs makes matches root h. none_of_six shape finds nodes table start d docs makes matches root h six
