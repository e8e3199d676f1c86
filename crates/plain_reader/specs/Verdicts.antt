-- When a setting is the code's, and what the code answers there.
use Rattle.std.specs.Prelude.{◌≡◌, ◌<◌, ◌≤◌, ◌+◌, ◌*◌, ℕ, suc, List, [], Option, None, Bool}
use Rattle.serde_json.specs.Data.{Data, depth}
use Rattle.serde_json.specs.View.{view}
use Rattle.json_values.specs.Parts.{Part}
use Rattle.schema_meaning.specs.Members.{In}
use Rattle.schema_meaning.specs.Places.{Spot, Key}
use Rattle.schema_meaning.specs.Questions.{Question}
use Rattle.schema_meaning.specs.Keywords.{Shape}
use Rattle.schema_meaning.specs.Cut.{left}
use Rattle.schema_definitions.specs.Bearers.{Documents}
use Rattle.schema_definitions.specs.Sites.{Site}
use Rattle.schema_definitions.specs.Rows.{Row, rows_at}
use Rattle.schema_definitions.specs.BuildCauses.{Reached}
use Rattle.schema_definitions.specs.Plain.{deepest}
use Rattle.reading_laws.specs.NameLaws.{keys_among}
use Rattle.schema_patterns.specs.Read.{reads}
use Rattle.schema_sites.specs.Passed.{scope_of}
use Rattle.schema_sites.specs.Seen.{documents_at, Stands}
use Rattle.schema_sites.specs.declared.site.Site as code
use Rattle.plain_reader.specs.Spots.{Spots}
use Rattle.plain_reader.specs.Settings.{Setting, uncalled, accepts_in, all_accept, all_yes}

-- nothing is wrong with the keywords of the schemas reached from here
pub record AreRead (docs : Documents) (makes : List ℕ → Bool) (s : Site) : Type 0 where
  pub right : (t : Site) → Reached docs makes s t → (row : Row) → In row (rows_at docs makes t) → row.causes ≡ []

-- a value at a path, by a road
abbrev pub value_at : Data → List Part → List Part → Spot
value_at d path road = record { value = d; path = path; called = None; road = road }

-- a setting is that of the code's site with the matches read of the instance, and of its value at its path, by whatever road
pub record Fits (c : code.Site) (d : Data) (path : List Part) (progress : List Key) (x : Setting) : Type 0 where
  pub documents : x.documents ≡ documents_at c
  pub stands : Stands c x.site
  pub scope : x.site.scope ≡ scope_of c.resolver
  pub spot : x.spot ≡ value_at d path x.spot.road
  pub keys : x.keys ≡ progress
  pub matches : x.matches ≡ reads c.matches.now
  pub read : AreRead x.documents x.makes x.site

-- how deep a reading of a schema may still go
abbrev pub room : Documents → Spots → List Key → Data → ℕ
room docs whole keys schema = left keys (keys_among docs whole) * suc (deepest docs) + depth schema

module _ (c : code.Site) (whole : Spots) (d : Data) (path : List Part) (progress : List Key) where
  -- whether the schema accepts
  pub record Accepts (b : Bool) : Type 0 where
    pub is : (x : Setting) → Fits c d path progress x → room (documents_at c) whole progress (view c.contents.now) < x.depth → accepts_in x ≡ b

  -- the same of a name, or of a value, that is called so
  pub record AcceptsCalled (called : Option (List ℕ)) (b : Bool) : Type 0 where
    pub is : (x : Setting) → Fits c d path progress (uncalled x) → x.spot.called ≡ called → room (documents_at c) whole progress (view c.contents.now) < x.depth
        → accepts_in x ≡ b

  -- whether keywords accept, where the sites that they lead to are read
  pub record ShapesAccept (leads : Setting → List Site) (shapes : Setting → List (Shape Site)) (b : Bool) : Type 0 where
    pub is : (x : Setting) → Fits c d path progress x → ((t : Site) → In t (leads x) → AreRead x.documents x.makes t)
        → room (documents_at c) whole progress (view c.contents.now) ≤ x.depth → all_accept x (shapes x) ≡ b

  -- whether questions are answered by yes
  pub record AreYes (leads : Setting → List Site) (questions : Setting → List (Question Site)) (b : Bool) : Type 0 where
    pub is : (x : Setting) → Fits c d path progress x → ((t : Site) → In t (leads x) → AreRead x.documents x.makes t)
        → room (documents_at c) whole progress (view c.contents.now) ≤ x.depth → all_yes x (questions x) ≡ b
