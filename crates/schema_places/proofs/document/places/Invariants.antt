use Rattle.std.proofs.Common.{◌≡◌, ◌++◌, ◌∷◌, ◌≤◌, [], map, take, drop, length}
use Rattle.std.specs.List.{flat_map, sum_by}
use Rattle.serde_json.specs.View.{view}
use Rattle.schema_definitions.specs.Places.{children, root_place}
use Rattle.schema_dialects.specs.Dialects.{dialect_of, dialects_in}
use Rattle.schema_places.specs.Seen.{place_of}
use Rattle.schema_places.proofs.Weights.{size}
use Rattle.schema_places.proofs.document.places.Given as goal

abbrev pub invariant-loop-next : goal.invariant-loop-next
invariant-loop-next l = record {
  within : l.next ≤ length l.found.items;
  queue : map place_of l.found.items ≡ (root_place (dialects_in l.known) l.uri.value (dialect_of l.fn.default) (view l.contents) ∷ []) ++ flat_map (children (dialects_in l.known)) (take l.next (map place_of l.found.items));
}

abbrev pub decreases-loop-next : goal.decreases-loop-next
decreases-loop-next l = sum_by size (drop l.next (map place_of l.found.items))
