-- Values of which each number is a whole number of 64 bits, and where another number stands.
use Rattle.std.specs.Prelude.{◌≡◌, List, ◌∷◌, Bool, true, false, ◌&&◌, Some, None, is_some, reverse}
use Rattle.serde_json.specs.Data.{Num, Data, null, boolean, number, string, array, object, Items, no_items, item, Members, no_members, member}
use Rattle.serde_json.specs.Find.{as_integer}
use Rattle.json_values.specs.Parts.{Part}
use Rattle.json_values.specs.Pointers.{value_in, value_at}

abbrev mutual
  pub only_whole : Data → Bool
  only_whole null = true
  only_whole (boolean b) = true
  only_whole (number n) = is_some (as_integer n)
  only_whole (string s) = true
  only_whole (array ds) = items_only_whole ds
  only_whole (object ms) = members_only_whole ms

  pub items_only_whole : Items → Bool
  items_only_whole no_items = true
  items_only_whole (item d ds) = only_whole d && items_only_whole ds

  pub members_only_whole : Members → Bool
  members_only_whole no_members = true
  members_only_whole (member k d ms) = only_whole d && members_only_whole ms

-- a number that is not whole stands at a path, the last part first
pub record IsOtherNumber (d : Data) (path : List Part) : Type 0 where
  pub other : Num
  pub stands : value_at (reverse path) d ≡ Some (number other)
  pub not_whole : as_integer other ≡ None

-- a path that goes one part further into a value, to one in which such a number stands
pub record IsNearer (d : Data) (path next : List Part) (inner : Data) : Type 0 where
  pub part : Part
  pub further : next ≡ part ∷ path
  pub leads : value_in part d ≡ Some inner
  pub not_whole : only_whole inner ≡ false
