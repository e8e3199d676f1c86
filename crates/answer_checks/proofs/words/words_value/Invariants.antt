use Rattle.std.proofs.Common.{◌≡◌, map, take}
use Rattle.serde_json.specs.Data.{string}
use Rattle.serde_json.specs.View.{view}
use Rattle.answer_checks.specs.Words.{word_of}
use Rattle.answer_checks.proofs.words.words_value.Given as goal

abbrev pub invariant-loop-answer : goal.invariant-loop-answer
invariant-loop-answer l = map view l.words.items ≡ map (λ a. string (word_of a)) (take l.answer-index l.answers)
