use Rattle.std.proofs.Common.{◌≡◌}
use Rattle.serde_json.specs.View.{view, members_view}
use Rattle.schema_meaning.specs.Keywords.{missing_beside}
use Rattle.assertions.specs.Texts.{entries_of}
use Rattle.assertions.specs.Wrong.{head}
use Rattle.assertions.proofs.missing.first_missing_beside.Given as goal

abbrev pub invariant-loop-name : goal.invariant-loop-name
invariant-loop-name l =
    head (missing_beside (entries_of (members_view l.entries.entries)) (view l.value)) ≡ head (missing_beside (entries_of (members_view l.name-iterator)) (view l.value))
