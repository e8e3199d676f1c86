-- What a value equals, by its kind.
use Rattle.std.proofs.Common.{◌≡◌, ℕ, List, Bool, true, false, ◌&&◌, refl, sym, ap}
use Rattle.std.proofs.lemmas.Slice.Eq.{bytes_eq-Decides}
use Rattle.serde_json.specs.Data.{Num, Data, null, boolean, number, string, array, object, Items, no_items, item, Members}
use Rattle.serde_json.specs.Find.{as_integer}
use Rattle.json_values.specs.Equality.{same_bool, same_whole, equal, equal_items, equal_members, names_in}

bool_same : (b c : Bool) → same_bool b c ≡ true → b ≡ c
bool_same true c h = sym h
bool_same false true h = cc
bool_same false false h = refl

pub null_equal : (e : Data) → equal null e ≡ true → e ≡ null
null_equal null h = refl
null_equal (boolean c) h = cc
null_equal (number n) h = cc
null_equal (string t) h = cc
null_equal (array es) h = cc
null_equal (object ns) h = cc

pub boolean_equal : (b : Bool) (e : Data) → equal (boolean b) e ≡ true → e ≡ boolean b
boolean_equal b null h = cc
boolean_equal b (boolean c) h = ap boolean (sym (bool_same b c h))
boolean_equal b (number n) h = cc
boolean_equal b (string t) h = cc
boolean_equal b (array es) h = cc
boolean_equal b (object ns) h = cc

pub number_equal : (m : Num) (e : Data) → equal (number m) e ≡ true → (n : Num) × (e ≡ number n) × (same_whole (as_integer m) (as_integer n) ≡ true)
number_equal m null h = cc
number_equal m (boolean c) h = cc
number_equal m (number n) h = (n, refl, h)
number_equal m (string t) h = cc
number_equal m (array es) h = cc
number_equal m (object ns) h = cc

pub string_equal : (s : List ℕ) (e : Data) → equal (string s) e ≡ true → e ≡ string s
string_equal s null h = cc
string_equal s (boolean c) h = cc
string_equal s (number n) h = cc
string_equal s (string t) h = ap string (sym ((bytes_eq-Decides s t).0 h))
string_equal s (array es) h = cc
string_equal s (object ns) h = cc

pub array_equal : (ds : Items) (e : Data) → equal (array ds) e ≡ true → (es : Items) × (e ≡ array es) × (equal_items ds es ≡ true)
array_equal ds null h = cc
array_equal ds (boolean c) h = cc
array_equal ds (number n) h = cc
array_equal ds (string t) h = cc
array_equal ds (array es) h = (es, refl, h)
array_equal ds (object ns) h = cc

pub object_equal : (ms : Members) (e : Data) → equal (object ms) e ≡ true → (ns : Members) × (e ≡ object ns) × ((equal_members ms ns && names_in ns ms) ≡ true)
object_equal ms null h = cc
object_equal ms (boolean c) h = cc
object_equal ms (number n) h = cc
object_equal ms (string t) h = cc
object_equal ms (array es) h = cc
object_equal ms (object ns) h = (ns, refl, h)

pub item_equal : (d : Data) (ds es : Items) → equal_items (item d ds) es ≡ true → (e : Data) × (fs : Items) × (es ≡ item e fs) × ((equal d e && equal_items ds fs) ≡ true)
item_equal d ds no_items h = cc
item_equal d ds (item e fs) h = (e, fs, refl, h)

pub no_items_equal : (es : Items) → equal_items no_items es ≡ true → es ≡ no_items
no_items_equal no_items h = refl
no_items_equal (item e fs) h = cc
