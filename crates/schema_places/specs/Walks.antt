-- What the walks of the code stand for.
use Rattle.std.specs.Prelude.{ℕ, List, Option, Result}
use Rattle.serde_json.specs.View.{view}
use Rattle.serde_json.specs.Find.{get, unescape}
use Rattle.json_values.specs.Parts.{name}
use Rattle.schema_definitions.specs.Words.{result_map, ok_or}
use Rattle.schema_definitions.specs.Places.{Dialect, SchemaPlace}
use Rattle.schema_definitions.specs.Lookup.{Walk, at_place, LookupCause, pointer_to_nowhere, arrived, in_member}
use Rattle.schema_places.specs.Seen.{place_of}
use Rattle.schema_places.specs.declared.walk.Walk as code
use Rattle.schema_places.specs.Held.{within_of}

abbrev pub walk_of : code.Walk → Walk
walk_of w = record { path = w.path; contents = view w.contents.now; last = place_of w.last; within = within_of w.within }

-- a walk at its begin
abbrev pub begun : SchemaPlace → Walk
begun p = record { path = p.path; contents = p.contents; last = p; within = at_place }

-- a part that leads from an object, as it is written
abbrev pub to_member : (List ℕ → Option Dialect) → List ℕ → List ℕ → Walk → Result Walk LookupCause
to_member meta written token w =
    result_map (arrived meta w (in_member w.last w.within (unescape token)) (name (unescape token))) (ok_or (pointer_to_nowhere written) (get (unescape token) w.contents))
