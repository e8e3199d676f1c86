use Rattle.std.proofs.Common.{drop}
use Rattle.serde_json.specs.View.{view}
use Rattle.fault_checks.proofs.AppliedQuestions.{Accepts}
use Rattle.fault_checks.proofs.applied_refusals.some_of_refused.Given as goal

abbrev pub invariant-loop-question : goal.invariant-loop-question
invariant-loop-question l = Accepts l.trial.site.now (view l.trial.value.now) l.asked (drop l.question-index l.asked)
