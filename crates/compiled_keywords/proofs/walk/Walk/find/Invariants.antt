use Rattle.schema_engine.specs.Places.{value_at}
use Rattle.compiled_keywords.specs.Walked.{IsInStep}
use Rattle.compiled_keywords.proofs.walk.Walk.find.Given as goal

abbrev pub invariant-loop-step : goal.invariant-loop-step
invariant-loop-step l = IsInStep l.self (value_at l.place)
