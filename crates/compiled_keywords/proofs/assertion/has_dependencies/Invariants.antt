use Rattle.std.proofs.Common.{◌≡◌, drop, map}
use Rattle.serde_json.specs.View.{view}
use Rattle.schema_meaning.specs.Members.{is_empty}
use Rattle.compiled_keywords.specs.Owned.{depending}
use Rattle.compiled_keywords.proofs.AcceptLemmas.{needed_in}
use Rattle.compiled_keywords.proofs.assertion.has_dependencies.Given as goal

abbrev pub invariant-loop-entry : goal.invariant-loop-entry
invariant-loop-entry l = is_empty (needed_in (view l.value) (map depending l.entries)) ≡ is_empty (needed_in (view l.value) (map depending (drop l.entry-index l.entries)))
