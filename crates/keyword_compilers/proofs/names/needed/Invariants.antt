use Rattle.std.proofs.Common.{◌≡◌, ◌++◌, map}
use Rattle.serde_json.specs.View.{members_view}
use Rattle.assertions.specs.Texts.{entries_of}
use Rattle.compiled_keywords.specs.Owned.{needed_by}
use Rattle.keyword_compilers.proofs.names.needed.Given as goal

abbrev pub invariant-loop-name : goal.invariant-loop-name
invariant-loop-name l = entries_of (members_view l.entries.entries) ≡ map needed_by l.found.items ++ entries_of (members_view l.name-iterator)
