-- The references in progress.
use Rattle.std.specs.Prelude.{ℕ, List, [], ◌∷◌, None}
use Rattle.json_values.specs.Parts.{Part}
use Rattle.schema_meaning.specs.Places.{Key}
use Rattle.document_index.specs.Seen.{name_of}
use Rattle.location_texts.specs.Locations.{location_of}
use Rattle.plain_reader.specs.declared.progress.Progress.{Progress, Nothing, Target'}

-- a target at a value's place
abbrev pub key : List ℕ → List Part → List Part → Key
key document path at = record { target = record { document = document; path = path }; path = at; called = None }

-- the last one first
abbrev pub keys_in : Progress → List Key
keys_in Nothing = []
keys_in (Target' document path at p before) = key (name_of document.now) path.now (location_of at.now) ∷ keys_in before
