use Rattle.std.proofs.Common.{◌≡◌, ◌++◌}
use Rattle.serde_json.specs.View.{view, members_view}
use Rattle.schema_meaning.specs.Keywords.{missing_beside}
use Rattle.assertions.specs.Texts.{entries_of}
use Rattle.assertions.specs.Wrong.{notes_of}
use Rattle.assertions.proofs.missing.push_missing_beside.Given as goal

abbrev pub invariant-loop-name : goal.invariant-loop-name
invariant-loop-name l = notes_of (view l.value) l.fn.found.items ++ missing_beside (entries_of (members_view l.entries.entries)) (view l.value)
    ≡ notes_of (view l.value) l.found.items ++ missing_beside (entries_of (members_view l.name-iterator)) (view l.value)
