use Rattle.std.proofs.Common.{◌≡◌, ◌++◌, map, drop}
use Rattle.schema_reports.specs.Phrases.{phrase_of}
use Rattle.schema_reports.specs.Sentences.{lines_of}
use Rattle.schema_reports.proofs.branches.push_lines.Given as goal

abbrev pub invariant-loop-error : goal.invariant-loop-error
invariant-loop-error l = map phrase_of l.fn.phrases.items ++ lines_of l.keyword l.index l.errors
    ≡ map phrase_of l.phrases.items ++ lines_of l.keyword l.index (drop l.error-index l.errors)
