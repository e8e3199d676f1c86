use Rattle.std.proofs.Common.{◌≡◌, drop, map}
use Rattle.serde_json.specs.View.{view}
use Rattle.schema_meaning.specs.Members.{is_empty}
use Rattle.schema_meaning.specs.Keywords.{missing_beside}
use Rattle.compiled_keywords.specs.Owned.{needed_by}
use Rattle.compiled_keywords.proofs.assertion.has_needed.Given as goal

abbrev pub invariant-loop-entry : goal.invariant-loop-entry
invariant-loop-entry l = is_empty (missing_beside (map needed_by l.entries) (view l.value)) ≡ is_empty (missing_beside (map needed_by (drop l.entry-index l.entries)) (view l.value))
