-- Every place of documents, and every pair of one with a place of an instance.
use Rattle.std.specs.Prelude.{ℕ, suc, List, [], ◌∷◌, ◌++◌, map, Option, Some, None}
use Rattle.std.specs.List.{flat_map}
use Rattle.serde_json.specs.Data.{Data, null, boolean, number, string, array, object, Items, no_items, item, Members, no_members, member}
use Rattle.json_values.specs.Parts.{Part, name, index}
use Rattle.schema_meaning.specs.Places.{SchemaPlace, Key}
use Rattle.schema_definitions.specs.Bearers.{Document, Documents, document_name}

-- the places of an instance at a path: its values, and the names of its members; paths have their last part first
abbrev mutual
  pub spots_in : List Part → Data → List (List Part × Option (List ℕ))
  spots_in path null = (path, None) ∷ []
  spots_in path (boolean b) = (path, None) ∷ []
  spots_in path (number n) = (path, None) ∷ []
  spots_in path (string s) = (path, None) ∷ []
  spots_in path (array ds) = (path, None) ∷ spots_of_items path 0 ds
  spots_in path (object ms) = (path, None) ∷ spots_of_members path ms

  pub spots_of_items : List Part → ℕ → Items → List (List Part × Option (List ℕ))
  spots_of_items path i no_items = []
  spots_of_items path i (item d ds) = spots_in (index i ∷ path) d ++ spots_of_items path (suc i) ds

  pub spots_of_members : List Part → Members → List (List Part × Option (List ℕ))
  spots_of_members path no_members = []
  spots_of_members path (member k d ms) = (path, Some k) ∷ spots_in (name k ∷ path) d ++ spots_of_members path ms

-- the paths of a value
abbrev mutual
  pub paths_in : List Part → Data → List (List Part)
  paths_in path null = path ∷ []
  paths_in path (boolean b) = path ∷ []
  paths_in path (number n) = path ∷ []
  paths_in path (string s) = path ∷ []
  paths_in path (array ds) = path ∷ paths_of_items path 0 ds
  paths_in path (object ms) = path ∷ paths_of_members path ms

  pub paths_of_items : List Part → ℕ → Items → List (List Part)
  paths_of_items path i no_items = []
  paths_of_items path i (item d ds) = paths_in (index i ∷ path) d ++ paths_of_items path (suc i) ds

  pub paths_of_members : List Part → Members → List (List Part)
  paths_of_members path no_members = []
  paths_of_members path (member k d ms) = paths_in (name k ∷ path) d ++ paths_of_members path ms

abbrev pub places_in : Document → List SchemaPlace
places_in d = map (λ path. record { document = document_name d; path = path }) (paths_in [] d.contents)

-- every place of the documents, a schema's or not
abbrev pub places_of : Documents → List SchemaPlace
places_of docs = flat_map places_in docs

-- every key that a reference can have: a place of the documents with a place of the instance
abbrev pub keys_of : Documents → Data → List Key
keys_of docs d = flat_map (λ p. map (λ spot. record { target = p; path = spot.0; called = spot.1 }) (spots_in [] d)) (places_of docs)
