-- What follows from the definitions, each the promise of a function.
use Rattle.std.specs.Prelude.{◌≡◌, ℕ, ◌<◌, ◌↔◌, ℤ, pos, ◌*ℤ◌, List, length, true, false, not, Some}
use Rattle.std.specs.List.{list_any}
use Rattle.std.specs.Str.{encode_utf8_all, all_scalars}
use Rattle.serde_json.specs.Data.{Data, object, Items, Members}
use Rattle.serde_json.specs.Find.{get_item, get_member}
use Rattle.json_values.specs.Equality.{equal, has_name, is_among, all_distinct, is_tree, is_kept}
use Rattle.json_values.specs.Numbers.{is_multiple}
use Rattle.json_values.specs.Texts.{code_points, is_ecma_space, has_no_space}

-- ---- equality (Core 4.2.2)

abbrev pub EqualityIsReflexive : Type 0
EqualityIsReflexive = (d : Data) → is_tree d ≡ true → equal d d ≡ true

abbrev pub EqualityIsSymmetric : Type 0
EqualityIsSymmetric = (d e : Data) → is_tree d ≡ true → is_tree e ≡ true → equal d e ≡ equal e d

abbrev pub EqualityIsTransitive : Type 0
EqualityIsTransitive = (d e f : Data) → equal d e ≡ true → equal e f ≡ true → equal d f ≡ true

-- objects are equal where they have the same names, and equal values under each
abbrev pub HaveEqualMembers : Members → Members → Type 0
HaveEqualMembers ms ns = ((k : List ℕ) → has_name k ms ≡ has_name k ns)
    × ((k : List ℕ) (d e : Data) → get_member k ms ≡ Some d → get_member k ns ≡ Some e → equal d e ≡ true)

abbrev pub ObjectsAreEqualByName : Type 0
ObjectsAreEqualByName = (ms ns : Members) → is_tree (object ms) ≡ true → is_tree (object ns) ≡ true → (equal (object ms) (object ns) ≡ true) ↔ HaveEqualMembers ms ns

-- trees as they are kept are equal just where they are the same
abbrev pub EqualKeptTreesAreTheSame : Type 0
EqualKeptTreesAreTheSame = (d e : Data) → is_kept d ≡ true → is_kept e ≡ true → (equal d e ≡ true) ↔ (d ≡ e)

abbrev pub KeptTreesAreTrees : Type 0
KeptTreesAreTrees = (d : Data) → is_kept d ≡ true → is_tree d ≡ true

-- `enum` (Validation 6.1.2)
abbrev pub AmongMeansEqualToAnItem : Type 0
AmongMeansEqualToAnItem = (d : Data) (ds : Items) → (is_among d ds ≡ true) ↔ ((i : ℕ) × (e : Data) × (get_item i ds ≡ Some e) × (equal d e ≡ true))

-- `uniqueItems` (Validation 6.4.3)
abbrev pub DistinctMeansNoTwoEqual : Type 0
DistinctMeansNoTwoEqual = (ds : Items)
    → (all_distinct ds ≡ true) ↔ ((i j : ℕ) (d e : Data) → i < j → get_item i ds ≡ Some d → get_item j ds ≡ Some e → equal d e ≡ false)

-- ---- numbers (Validation 6.2.1)

abbrev pub MultiplesAreProducts : Type 0
MultiplesAreProducts = (n : ℕ) (z : ℤ) → 0 < n → (is_multiple n z ≡ true) ↔ ((k : ℤ) × (k *ℤ pos n ≡ z))

-- ---- texts (Validation 6.3.1)

abbrev pub CodePointsAreCounted : Type 0
CodePointsAreCounted = (cs : List ℕ) → all_scalars cs ≡ true → code_points (encode_utf8_all cs) ≡ length cs

abbrev pub SpacesAreCodePoints : Type 0
SpacesAreCodePoints = (cs : List ℕ) → all_scalars cs ≡ true → has_no_space (encode_utf8_all cs) ≡ not (list_any is_ecma_space cs)
