-- The places of what is read.
use Rattle.std.specs.Prelude.{ℕ, List, Option}
use Rattle.serde_json.specs.Data.{Data}
use Rattle.serde_json.specs.View.{view}
use Rattle.json_values.specs.Parts.{Part}
use Rattle.schema_meaning.specs.Members.{In}
use Rattle.schema_definitions.specs.AllKeys.{spots_in}
use Rattle.location_texts.specs.Locations.{location_of}
use Rattle.plain_reader.specs.declared.whole.Whole.{Whole}

abbrev pub Spots : Type 0
Spots = List (List Part × Option (List ℕ))

-- those of a value, at the path where it stands
abbrev pub spots_of : Whole → Spots
spots_of w = spots_in (location_of w.at.now) (view w.value.now)

-- a value's places are among these
pub record Within (d : Data) (path : List Part) (whole : Spots) : Type 0 where
  pub spots : (spot : List Part × Option (List ℕ)) → In spot (spots_in path d) → In spot whole
