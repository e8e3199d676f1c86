use Rattle.std.proofs.Common.{◌≡◌, length}
use Rattle.schema_engine.specs.Matches.{Answers}
use Rattle.graph_answers.specs.Runs.{is_behind}
use Rattle.graph_answers.proofs.RunCounts.{AreGone}
use Rattle.graph_answers.proofs.runs.turn_last.Given as goal

abbrev pub invariant-loop-last : goal.invariant-loop-last
invariant-loop-last l = record {
  left : (rest : Answers) → is_behind l.fn.assumed.items rest ≡ is_behind l.assumed.items rest;
  gone : AreGone l.fn.assumed.items l.assumed.items;
}

abbrev pub decreases-loop-last : goal.decreases-loop-last
decreases-loop-last l = length l.assumed.items
