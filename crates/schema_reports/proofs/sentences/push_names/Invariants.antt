use Rattle.std.proofs.Common.{◌≡◌, ◌++◌, map, drop, string_bytes}
use Rattle.schema_reports.specs.Phrases.{phrase_of}
use Rattle.schema_reports.specs.Sentences.{names_listed, more_names}
use Rattle.schema_reports.proofs.sentences.push_names.Given as goal

abbrev pub invariant-loop-name : goal.invariant-loop-name
invariant-loop-name l = map phrase_of l.fn.phrases.items ++ names_listed (map string_bytes l.names)
    ≡ map phrase_of l.phrases.items ++ more_names (map string_bytes (drop l.name-index l.rest))
