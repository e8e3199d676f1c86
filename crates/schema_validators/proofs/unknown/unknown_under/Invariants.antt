use Rattle.std.proofs.Common.{◌≡◌, map, take}
use Rattle.std.specs.List.{flat_map}
use Rattle.document_index.specs.Seen.{name_of}
use Rattle.schema_places.specs.Seen.{place_of}
use Rattle.schema_validators.specs.Unknown.{unknown_at, unknown_from}
use Rattle.schema_validators.proofs.unknown.unknown_under.Given as goal

abbrev pub invariant-loop-place : goal.invariant-loop-place
invariant-loop-place l =
    map unknown_from l.found.items ≡ flat_map (unknown_at (name_of l.document.name)) (map place_of (take l.place-index l.place-items))
