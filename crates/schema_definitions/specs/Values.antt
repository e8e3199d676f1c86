-- The values that keywords may have, and what is wrong with others.
use Rattle.std.specs.Prelude.{ℕ, ℤ, nat_lt, List, [], ◌∷◌, Bool, true, not, ◌&&◌, bytes_eq, if◌then◌else◌, Option, Some, None, option_and_then}
use Rattle.std.specs.List.{list_any}
use Rattle.serde_json.specs.Data.{Data, Items, no_items, item}
use Rattle.serde_json.specs.Find.{as_str, as_array, as_u64, as_number}
use Rattle.json_values.specs.Numbers.{whole}
use Rattle.json_values.specs.Kinds.{Primitive, null_type, boolean_type, object_type, array_type, number_type, string_type, integer_type, type_name}

-- every one, if each is
abbrev pub first_and : {A : Type 0} → Option A → Option (List A) → Option (List A)
first_and None xs = None
first_and (Some x) None = None
first_and (Some x) (Some xs) = Some (x ∷ xs)

-- ---- names of types (Validation 6.1.1)

abbrev pub all_types : List Primitive
all_types = null_type ∷ boolean_type ∷ object_type ∷ array_type ∷ number_type ∷ string_type ∷ integer_type ∷ []

abbrev pub type_among : List Primitive → List ℕ → Option Primitive
type_among [] k = None
type_among (t ∷ ts) k = if bytes_eq (type_name t) k then Some t else type_among ts k

abbrev pub type_of : Data → Option Primitive
type_of d = option_and_then (type_among all_types) (as_str d)

abbrev pub types_in : Items → Option (List Primitive)
types_in no_items = Some []
types_in (item d ds) = first_and (type_of d) (types_in ds)

abbrev pub or_alone : {A : Type 0} → Option A → Option (List A) → Option (List A)
or_alone (Some x) xs = Some (x ∷ [])
or_alone None xs = xs

-- one name, or a list of them
abbrev pub type_names : Data → Option (List Primitive)
type_names d = or_alone (type_of d) (option_and_then types_in (as_array d))

-- ---- numbers

abbrev pub whole_number : Data → Option ℤ
whole_number d = whole d

-- a whole number from 0 (Validation 6.3.1 and others)
abbrev pub count_of : Data → Option ℕ
count_of d = option_and_then as_u64 (as_number d)

-- a whole number above 0 (Validation 6.2.1)
abbrev pub positive_of : Data → Option ℕ
positive_of d = option_and_then (λ n. if nat_lt 0 n then Some n else None) (count_of d)

-- ---- names, none twice (Validation 6.5.3)

abbrev pub names_in : Items → Option (List (List ℕ))
names_in no_items = Some []
names_in (item d ds) = first_and (as_str d) (names_in ds)

abbrev pub none_twice : List (List ℕ) → Bool
none_twice [] = true
none_twice (k ∷ ks) = not (list_any (bytes_eq k) ks) && none_twice ks

abbrev pub if_none_twice : List (List ℕ) → Option (List (List ℕ))
if_none_twice names = if none_twice names then Some names else None

abbrev pub unique_names : Data → Option (List (List ℕ))
unique_names d = option_and_then if_none_twice (option_and_then names_in (as_array d))
