use Rattle.std.proofs.Common.{◌≡◌, map, take, reverse, string_bytes}
use Rattle.std.specs.List.{All}
use Rattle.json_values.specs.Pointers.{PathFits}
use Rattle.schema_places.specs.Seen.{place_of}
use Rattle.schema_registries.specs.Pointers.{pointer_of}
use Rattle.schema_registries.proofs.place_pointers.pointers_under.Given as goal

abbrev pub invariant-loop-place : goal.invariant-loop-place
invariant-loop-place l = record {
  written : map string_bytes l.pointers.items ≡ map pointer_of (map place_of (take l.place-index l.place-items));
  fit : All (λ p. PathFits (reverse p.path)) (map place_of (take l.place-index l.place-items));
}
