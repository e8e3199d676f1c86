-- The texts of a value.
use Rattle.std.specs.Prelude.{ℕ, List, [], ◌∷◌, ◌++◌, map}
use Rattle.std.specs.Borrow.{Bor}
use Rattle.serde_json.specs.Data.{Data, null, boolean, number, string, array, object, Items, no_items, item, Members, no_members, member}

-- its texts and the names of its members, in order
abbrev mutual
  pub texts_in : Data → List (List ℕ)
  texts_in null = []
  texts_in (boolean b) = []
  texts_in (number n) = []
  texts_in (string s) = s ∷ []
  texts_in (array ds) = texts_of_items ds
  texts_in (object ms) = texts_of_members ms

  pub texts_of_items : Items → List (List ℕ)
  texts_of_items no_items = []
  texts_of_items (item d ds) = texts_in d ++ texts_of_items ds

  pub texts_of_members : Members → List (List ℕ)
  texts_of_members no_members = []
  texts_of_members (member k d ms) = k ∷ texts_in d ++ texts_of_members ms

-- the bytes of texts that are lent
abbrev pub bytes_of : List (Bor (List ℕ)) → List (List ℕ)
bytes_of texts = map (λ t. t.now) texts
