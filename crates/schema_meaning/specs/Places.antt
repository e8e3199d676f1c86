-- Places in documents and in instances.
use Rattle.std.specs.Prelude.{ℕ, List, [], ◌∷◌, ◌++◌, Option, Some, None}
use Rattle.serde_json.specs.Data.{Data, string}
use Rattle.json_values.specs.Parts.{Part, name, index}

-- A place of an instance with the value there and the road that led to it, both paths with their last part first.
-- A member's name is a place of its own: its value is the name as a text, its path is the object's.
pub record Spot : Type 0 where
  pub value : Data
  pub path : List Part
  pub called : Option (List ℕ)
  pub road : List Part

-- the whole instance, no keyword read yet
abbrev pub whole : Data → Spot
whole d = record { value = d; path = []; called = None; road = [] }

-- where a keyword leads from a value: it stays, or goes to an item, a member, or a member's name
pub data Step : Type 0 where
  stay : Step
  to_item : ℕ → Data → Step
  to_member : List ℕ → Data → Step
  to_name : List ℕ → Step

abbrev pub value_after : Data → Step → Data
value_after d stay = d
value_after d (to_item i e) = e
value_after d (to_member k e) = e
value_after d (to_name k) = string k

abbrev pub path_after : List Part → Step → List Part
path_after p stay = p
path_after p (to_item i e) = index i ∷ p
path_after p (to_member k e) = name k ∷ p
path_after p (to_name k) = p

abbrev pub called_after : Option (List ℕ) → Step → Option (List ℕ)
called_after c stay = c
called_after c (to_item i e) = None
called_after c (to_member k e) = None
called_after c (to_name k) = Some k

-- the spot after a step by a keyword that adds `added` to the road
abbrev pub after : Spot → Step → List Part → Spot
after w step added = record {
  value = value_after w.value step;
  path = path_after w.path step;
  called = called_after w.called step;
  road = added ++ w.road;
}

-- the place of a schema: a document's URI and a path in it, last part first
pub record SchemaPlace : Type 0 where
  pub document : List ℕ
  pub path : List Part

-- a schema's place together with a place of the instance
pub record Key : Type 0 where
  pub target : SchemaPlace
  pub path : List Part
  pub called : Option (List ℕ)
