use Rattle.std.proofs.Common.{◌≡◌, ◌++◌, map}
use Rattle.serde_json.specs.View.{members_view}
use Rattle.compiled_keywords.specs.Owned.{depending}
use Rattle.keyword_compilers.specs.Numbers.{dependencies_by}
use Rattle.keyword_compilers.proofs.dependencies.dependencies.Given as goal

abbrev pub invariant-loop-name : goal.invariant-loop-name
invariant-loop-name l = dependencies_by l.nodes (members_view l.entries.entries) ≡ map depending l.found.items ++ dependencies_by l.left (members_view l.name-iterator)
