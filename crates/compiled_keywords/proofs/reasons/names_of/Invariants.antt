use Rattle.std.proofs.Common.{◌≡◌, ◌++◌, map, drop, string_bytes}
use Rattle.compiled_keywords.specs.Named.{names_asked}
use Rattle.compiled_keywords.proofs.reasons.names_of.Given as goal

abbrev pub invariant-loop-question : goal.invariant-loop-question
invariant-loop-question l = names_asked l.questions ≡ map string_bytes l.names.items ++ names_asked (drop l.question-index l.questions)
