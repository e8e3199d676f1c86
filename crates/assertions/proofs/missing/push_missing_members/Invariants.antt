use Rattle.std.proofs.Common.{◌≡◌, ◌++◌, drop, map}
use Rattle.serde_json.specs.Data.{Data}
use Rattle.serde_json.specs.View.{items_view, members_view}
use Rattle.assertions.specs.Wrong.{missing_in, notes_of, note_of_name}
use Rattle.assertions.proofs.missing.push_missing_members.Given as goal

abbrev pub invariant-loop-name : goal.invariant-loop-name
invariant-loop-name l = (d : Data) → notes_of d l.fn.found.items ++ map (note_of_name d) (missing_in (items_view l.names) (members_view l.members.entries))
    ≡ notes_of d l.found.items ++ map (note_of_name d) (missing_in (items_view (drop l.name-index l.names)) (members_view l.members.entries))
