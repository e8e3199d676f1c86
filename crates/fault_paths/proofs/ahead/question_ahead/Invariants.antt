use Rattle.std.proofs.Common.{drop}
use Rattle.fault_paths.specs.Texts.{text_left}
use Rattle.fault_paths.proofs.AheadFacts.{Rest}
use Rattle.fault_paths.proofs.ahead.question_ahead.Given as goal

abbrev pub invariant-loop-question : goal.invariant-loop-question
invariant-loop-question l = Rest l.asked (drop l.question-index l.asked) (text_left l.instance) (text_left l.after)
