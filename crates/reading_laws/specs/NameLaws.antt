-- What is proved of members' names that are read as texts. Each statement is the contract of a function of this crate.
use Rattle.std.specs.Prelude.{◌≡◌, ◌≤◌, ℕ, List, [], map, Option, Some, None}
use Rattle.std.specs.List.{flat_map}
use Rattle.serde_json.specs.Data.{Data, string}
use Rattle.json_values.specs.Parts.{Part}
use Rattle.schema_meaning.specs.Members.{In}
use Rattle.schema_meaning.specs.Places.{Key}
use Rattle.schema_meaning.specs.Readings.{Reading, bags}
use Rattle.schema_meaning.specs.Cut.{cut_within, left}
use Rattle.schema_definitions.specs.Bearers.{Documents}
use Rattle.schema_definitions.specs.AllKeys.{spots_in, places_of, keys_of}

-- these keys are of values, and none is of a name
abbrev pub AreUncalled : List Key → Type 0
AreUncalled ks = (key : Key) → In key ks → key.called ≡ None

-- A name is read as its text where it stands, whatever references of values are in progress: what is asked of a text is asked where it stays,
-- so each key on the way is the name's.
abbrev pub ReadAsText : (S : Type 0) → Type 0
ReadAsText S = (r : Reading S) (n : ℕ) (k : List ℕ) (path road : List Part) (outer : List Key) (s : S) → AreUncalled outer
    → cut_within bags r n outer s (record { value = string k; path = path; called = Some k; road = road })
    ≡ cut_within bags r n [] s (record { value = string k; path = path; called = None; road = road })

-- each place of the documents with each of these places of an instance
abbrev pub keys_among : Documents → List (List Part × Option (List ℕ)) → List Key
keys_among docs spots = flat_map (λ p. map (λ spot. record { target = p; path = spot.0; called = spot.1 }) spots) (places_of docs)

-- the keys of a text alone, at any path, are no more than those that are left where a name is among these places
abbrev pub HaveRoomAmong : Type 0
HaveRoomAmong = (docs : Documents) (spots : List (List Part × Option (List ℕ))) (at path : List Part) (k : List ℕ) (outer : List Key) → AreUncalled outer
    → In (path, Some k) spots → left [] (keys_among docs (spots_in at (string k))) ≤ left outer (keys_among docs spots)

-- so where the name is the whole value's
abbrev pub HaveRoom : Type 0
HaveRoom = (docs : Documents) (whole : Data) (path : List Part) (k : List ℕ) (outer : List Key) → AreUncalled outer → In (path, Some k) (spots_in [] whole)
    → left [] (keys_of docs (string k)) ≤ left outer (keys_of docs whole)
