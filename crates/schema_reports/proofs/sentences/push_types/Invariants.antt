use Rattle.std.proofs.Common.{◌≡◌, ◌++◌, map, drop}
use Rattle.assertions.specs.Named.{names_in}
use Rattle.value_checks.specs.Code.{primitive_of}
use Rattle.schema_reports.specs.Phrases.{phrase_of}
use Rattle.schema_reports.specs.Sentences.{types_listed, more_types}
use Rattle.schema_reports.proofs.sentences.push_types.Given as goal

abbrev pub invariant-loop-json_type : goal.invariant-loop-json_type
invariant-loop-json_type l = map phrase_of l.fn.phrases.items ++ types_listed (names_in l.names)
    ≡ map phrase_of l.phrases.items ++ more_types (map primitive_of (drop l.json_type-index l.rest))
