use Rattle.std.proofs.Common.{◌≡◌, ◌++◌, map}
use Rattle.serde_json.specs.View.{members_view}
use Rattle.schema_definitions.specs.Places.{children, children_of}
use Rattle.schema_dialects.specs.Dialects.{dialects_in}
use Rattle.schema_places.specs.Seen.{place_of}
use Rattle.schema_places.proofs.document.push_children.Given as goal

abbrev pub invariant-loop-name : goal.invariant-loop-name
invariant-loop-name l =
    map place_of l.fn.found.items ++ children (dialects_in l.known) (place_of l.outer)
    ≡ map place_of l.found.items ++ children_of (dialects_in l.known) (place_of l.outer) l.hidden (members_view l.name-iterator)
