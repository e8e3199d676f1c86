use Rattle.std.proofs.Common.{◌≤◌, drop}
use Rattle.serde_json.specs.View.{view}
use Rattle.fault_checks.proofs.Counted.{Tallied}
use Rattle.fault_checks.proofs.applied_refusals.accepted_of.Given as goal

abbrev pub invariant-loop-question : goal.invariant-loop-question
invariant-loop-question l = record {
  few : l.accepted ≤ l.question-index;
  tallied : Tallied l.trial.site.now (view l.trial.value.now) l.asked (drop l.question-index l.asked) l.accepted;
}
