use Rattle.std.proofs.Common.{◌≡◌, ◌++◌, map, drop}
use Rattle.serde_json.specs.View.{view, items_view}
use Rattle.schema_definitions.specs.Places.{each_item, in_list}
use Rattle.schema_dialects.specs.Dialects.{dialects_in}
use Rattle.schema_places.specs.Seen.{place_of}
use Rattle.schema_places.proofs.document.push_list.Given as goal

abbrev pub invariant-loop-position : goal.invariant-loop-position
invariant-loop-position l =
    map place_of l.fn.found.items ++ in_list (dialects_in l.known) (place_of l.outer) l.path (view l.fn.part)
    ≡ map place_of l.found.items ++ each_item (dialects_in l.known) (place_of l.outer) l.path l.position (items_view (drop l.position l.item-items))
