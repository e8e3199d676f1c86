-- The texts of a list, and of the lists of an object.
use Rattle.std.specs.Prelude.{ℕ, List, [], ◌∷◌, ◌++◌, Bool, true, ◌&&◌, is_some}
use Rattle.serde_json.specs.Data.{Data, Items, no_items, item, Members, no_members, member}
use Rattle.serde_json.specs.Find.{as_str, as_array}
use Rattle.schema_definitions.specs.Words.{or, listed}

-- the items that are texts
abbrev pub texts_of : Items → List (List ℕ)
texts_of no_items = []
texts_of (item d ds) = listed (as_str d) ++ texts_of ds

abbrev pub are_texts : Items → Bool
are_texts no_items = true
are_texts (item d ds) = is_some (as_str d) && are_texts ds

abbrev pub texts_in : Data → List (List ℕ)
texts_in d = texts_of (or no_items (as_array d))

-- each name with the texts of its list
abbrev pub entries_of : Members → List (List ℕ × List (List ℕ))
entries_of no_members = []
entries_of (member k d ms) = (k, texts_in d) ∷ entries_of ms
