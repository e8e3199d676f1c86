use Rattle.std.proofs.Common.{◌≡◌, ◌++◌, map}
use Rattle.serde_json.specs.View.{view, members_view}
use Rattle.schema_definitions.specs.Places.{each_member, in_map}
use Rattle.schema_dialects.specs.Dialects.{dialects_in}
use Rattle.schema_places.specs.Seen.{place_of}
use Rattle.schema_places.proofs.document.push_map.Given as goal

abbrev pub invariant-loop-name : goal.invariant-loop-name
invariant-loop-name l =
    map place_of l.fn.found.items ++ in_map (dialects_in l.known) (place_of l.outer) l.path (view l.fn.part)
    ≡ map place_of l.found.items ++ each_member (dialects_in l.known) (place_of l.outer) l.path (members_view l.name-iterator)
