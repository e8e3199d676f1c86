-- What is proved of the plain reading. Each statement is the contract of a function of this crate.
use Rattle.std.specs.Prelude.{◌≡◌, ◌≤◌, ◌*◌, ℕ, suc, List, [], Bool, Ok}
use Rattle.serde_json.specs.Data.{Data, depth}
use Rattle.schema_meaning.specs.Places.{whole}
use Rattle.schema_meaning.specs.Readings.{Telling, IsTold, IsNested}
use Rattle.schema_meaning.specs.Circular.{IsCircular}
use Rattle.schema_meaning.specs.Cut.{cut_within, cut, left, AreAll}
use Rattle.schema_definitions.specs.Bearers.{Documents}
use Rattle.schema_definitions.specs.Lookup.{Target, lookup}
use Rattle.schema_definitions.specs.Sites.{Site, root_site}
use Rattle.schema_definitions.specs.Plain.{deepest, plain}
use Rattle.schema_definitions.specs.AllKeys.{keys_of}

-- subschemas nest, and a site's rank is how deep its schema nests
abbrev pub PlainNests : Type 0
PlainNests = (docs : Documents) (makes : List ℕ → Bool) (matches : List ℕ → List ℕ → Bool)
    → (nested : IsNested (plain docs makes matches)) × ((s : Site) → nested.rank s ≡ depth s.contents)

-- every reference that is followed has its key among those of the documents and the instance
abbrev pub KeysAreAll : Type 0
KeysAreAll = (docs : Documents) (makes : List ℕ → Bool) (matches : List ℕ → List ℕ → Bool) (s : Site) (d : Data)
    → AreAll (plain docs makes matches) s (whole d) (keys_of docs d)

-- from a root that a lookup found, where a value is not circular it is decided, and the cut reading gives the decided answer
abbrev pub PlainIsDecided : (A : Type 0) → Type 0
PlainIsDecided A = (t : Telling Site A) (docs : Documents) (makes : List ℕ → Bool) (matches : List ℕ → List ℕ → Bool) (base reference : List ℕ) (root : Target) (d : Data)
    → lookup docs base reference ≡ Ok root → (IsCircular (plain docs makes matches) (root_site root) (whole d) → ⊥)
    → IsTold t (plain docs makes matches) (root_site root) (whole d) (cut t (plain docs makes matches) (keys_of docs d) [] (root_site root) (whole d))

-- from such a root, deeper than `cut` goes nothing changes, on circular values too
abbrev pub PlainIsDeepEnough : (A : Type 0) → Type 0
PlainIsDeepEnough A = (t : Telling Site A) (docs : Documents) (makes : List ℕ → Bool) (matches : List ℕ → List ℕ → Bool) (base reference : List ℕ) (root : Target) (d : Data)
    → lookup docs base reference ≡ Ok root → (n : ℕ) → suc (left [] (keys_of docs d)) * suc (deepest docs) ≤ n
    → cut_within t (plain docs makes matches) n [] (root_site root) (whole d) ≡ cut t (plain docs makes matches) (keys_of docs d) [] (root_site root) (whole d)
