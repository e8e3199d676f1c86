use Rattle.std.proofs.Common.{◌≡◌, ◌++◌, map, drop}
use Rattle.schema_reports.specs.Phrases.{phrase_of}
use Rattle.schema_reports.specs.Sentences.{branches_said}
use Rattle.schema_reports.proofs.branches.push_branches.Given as goal

abbrev pub invariant-loop-index : goal.invariant-loop-index
invariant-loop-index l = map phrase_of l.fn.phrases.items ++ branches_said l.keyword 0 l.branches
    ≡ map phrase_of l.phrases.items ++ branches_said l.keyword l.index (drop l.index l.branches)
