use Rattle.std.proofs.Common.{ℕ, List, ◌++◌, map, drop, string_bytes}
use Rattle.schema_reports.specs.Phrases.{phrase_of, AreSpelled}
use Rattle.schema_reports.proofs.phrases.spelled.Given as goal

abbrev pub invariant-loop-phrase : goal.invariant-loop-phrase
invariant-loop-phrase l = (rest : List ℕ) → AreSpelled (map phrase_of (drop l.phrase-index l.phrases)) rest
    → AreSpelled (map phrase_of l.phrases) (string_bytes l.text ++ rest)
