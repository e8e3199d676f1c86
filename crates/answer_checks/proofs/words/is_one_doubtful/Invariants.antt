use Rattle.std.proofs.Common.{◌≡◌, false, take}
use Rattle.std.specs.List.{list_any}
use Rattle.answer_checks.specs.Words.{is_refusal}
use Rattle.answer_checks.proofs.words.is_one_doubtful.Given as goal

abbrev pub invariant-loop-answer : goal.invariant-loop-answer
invariant-loop-answer l = list_any is_refusal (take l.answer-index l.answers) ≡ false
