-- Lists of names, and the rows of the keywords that have them.
use Rattle.std.proofs.Common.{◌≡◌, ℕ, List, [], ◌∷◌, ◌++◌, length, Bool, true, false, not, ◌&&◌, ◌||◌, ◌==◌, codes, Option, Some, None, refl, sym, ap, ◌∙◌, subst, bytes_eq}
use Rattle.std.specs.List.{list_any}
use Rattle.std.specs.Prelude.{is_some, option_and_then}
use Rattle.serde_json.specs.declared.value.Value.{Value}
use Rattle.serde_json.specs.Data.{Data, null, boolean, number, string, array, object, Items, no_items, item, Members}
use Rattle.serde_json.specs.Find.{as_str, as_array, as_object}
use Rattle.serde_json.specs.View.{view, items_view}
use Rattle.schema_definitions.specs.Words.{listed}
use Rattle.schema_meaning.specs.Keywords as told
use Rattle.json_values.specs.Equality.{is_among, all_distinct}
use Rattle.schema_definitions.specs.Rows.{Row, Context, asserted, assertion, reads, unless_empty, in_list, in_object}
use Rattle.schema_definitions.specs.Values.{first_and, names_in, none_twice, if_none_twice, unique_names}
use Rattle.assertions.proofs.ReadLemmas.{refused-value}
use Rattle.assertions.specs.Texts.{texts_of, are_texts}
use Rattle.assertions.specs.Reads.{ReadsAs, Makes, IsNameList, required_names_row}
use Rattle.assertions.specs.declared.names.NameList.{NameList}
use Rattle.assertions.specs.declared.names.NameList.TheVariants as list
use Rattle.assertions.specs.declared.reading.Reading.{Reading}

-- ---- texts

first_stands : (o : Option (List ℕ)) (b : Bool) (r : Option (List (List ℕ))) (ts : List (List ℕ)) → (is_some o && b) ≡ true → (b ≡ true → r ≡ Some ts)
    → first_and o r ≡ Some (listed o ++ ts)
first_stands None b r ts h g = cc
first_stands (Some k) b r ts h g = rw (g h) refl

pub texts_stand : (ds : Items) → are_texts ds ≡ true → names_in ds ≡ Some (texts_of ds)
texts_stand no_items h = refl
texts_stand (item d ds) h = first_stands (as_str d) (are_texts ds) (names_in ds) (texts_of ds) h (texts_stand ds)

first_fails : (o : Option (List ℕ)) (b : Bool) (r : Option (List (List ℕ))) → (is_some o && b) ≡ false → (b ≡ false → r ≡ None) → first_and o r ≡ None
first_fails None b r h g = refl
first_fails (Some k) b r h g = rw (g h) refl

pub texts_fail : (ds : Items) → are_texts ds ≡ false → names_in ds ≡ None
texts_fail no_items h = cc
texts_fail (item d ds) h = first_fails (as_str d) (are_texts ds) (names_in ds) h (texts_fail ds)

text_among : (k : List ℕ) (ds : Items) → are_texts ds ≡ true → list_any (bytes_eq k) (texts_of ds) ≡ is_among (string k) ds
text_among k no_items h = refl
text_among k (item null ds) h = cc
text_among k (item (boolean b) ds) h = cc
text_among k (item (number n) ds) h = cc
text_among k (item (string s) ds) h = ap (λ b. bytes_eq k s || b) (text_among k ds h)
text_among k (item (array es) ds) h = cc
text_among k (item (object ms) ds) h = cc

pub texts_distinct : (ds : Items) → are_texts ds ≡ true → none_twice (texts_of ds) ≡ all_distinct ds
texts_distinct no_items h = refl
texts_distinct (item null ds) h = cc
texts_distinct (item (boolean b) ds) h = cc
texts_distinct (item (number n) ds) h = cc
texts_distinct (item (string s) ds) h =
    ap (λ b. not b && none_twice (texts_of ds)) (text_among s ds h) ∙ ap (λ b. not (is_among (string s) ds) && b) (texts_distinct ds h)
texts_distinct (item (array es) ds) h = cc
texts_distinct (item (object ms) ds) h = cc

-- ---- a list of names

unique_told : (ds : Items) → names_in ds ≡ Some (texts_of ds) → none_twice (texts_of ds) ≡ true → option_and_then if_none_twice (names_in ds) ≡ Some (texts_of ds)
unique_told ds e f = rw (e, f) refl

repeated_told : (ds : Items) → names_in ds ≡ Some (texts_of ds) → none_twice (texts_of ds) ≡ false → option_and_then if_none_twice (names_in ds) ≡ None
repeated_told ds e f = rw (e, f) refl

other_told : (ds : Items) (n : NameList) → IsNameList ds n → (n ≡ list.Unique → ⊥) → option_and_then if_none_twice (names_in ds) ≡ None
other_told ds list.Unique h other = absurd (other refl)
other_told ds list.Repeated h other = repeated_told ds h.0 h.1
other_told ds list.Other h other = rw h refl

pub other-names : (c : Context) (ds : Items) (n : NameList) (x : Reading) → IsNameList ds n → (n ≡ list.Unique → ⊥) → Makes None (codes "unique names") x
    → ReadsAs c (codes "required") (required_names_row c ds) x
other-names c ds n x h other makes =
    subst (λ (o : Option (List (List ℕ))). ReadsAs c (codes "required") (asserted c (codes "required") (codes "unique names") unless_empty o) x) (sym (other_told ds n h other))
    (refused-value c (codes "required") (codes "unique names") x makes)

some_name : (o : Option (List ℕ)) (r : Option (List (List ℕ))) (ts : List (List ℕ)) → first_and o r ≡ Some (listed o ++ ts)
    → unless_empty (listed o ++ ts) ≡ assertion (told.required (listed o ++ ts))
some_name None r ts h = cc
some_name (Some k) r ts h = refl

some_names : (vs : List Value) → (length vs == 0) ≡ false → names_in (items_view vs) ≡ Some (texts_of (items_view vs))
    → unless_empty (texts_of (items_view vs)) ≡ assertion (told.required (texts_of (items_view vs)))
some_names [] h e = cc
some_names (v ∷ vs) h e = some_name (as_str (view v)) (names_in (items_view vs)) (texts_of (items_view vs)) e

pub unique-names : (c : Context) (vs : List Value) → IsNameList (items_view vs) list.Unique → (length vs == 0) ≡ false
    → required_names_row c (items_view vs) ≡ reads [] (assertion (told.required (texts_of (items_view vs))))
unique-names c vs h some =
    ap (asserted c (codes "required") (codes "unique names") unless_empty) (unique_told (items_view vs) h.0 h.1) ∙ ap (reads []) (some_names vs some h.0)

-- ---- `required`

abbrev row_by : Context → Option Items → Row
row_by c o = asserted c (codes "required") (codes "unique names") unless_empty (option_and_then if_none_twice (option_and_then names_in o))

pub required-list : (c : Context) (d : Data) (ds es : Items) (x : Reading) → Some ds ≡ as_array d → es ≡ ds → ReadsAs c (codes "required") (required_names_row c es) x
    → ReadsAs c (codes "required") (asserted c (codes "required") (codes "unique names") unless_empty (unique_names d)) x
required-list c d ds es x e f h =
    subst (λ (o : Option Items). ReadsAs c (codes "required") (row_by c o) x) e (subst (λ (fs : Items). ReadsAs c (codes "required") (required_names_row c fs) x) f h)

pub required-other : (c : Context) (d : Data) (x : Reading) → None ≡ as_array d → Makes None (codes "unique names") x
    → ReadsAs c (codes "required") (asserted c (codes "required") (codes "unique names") unless_empty (unique_names d)) x
required-other c d x e h = subst (λ (o : Option Items). ReadsAs c (codes "required") (row_by c o) x) e (refused-value c (codes "required") (codes "unique names") x h)

-- ---- `dependentRequired`

pub list-there : {A : Type 0} (f : Items → A) (other : A) (d : Data) (ds : Items) → Some ds ≡ as_array d → in_list f other d ≡ f ds
list-there f other null ds e = cc
list-there f other (boolean b) ds e = cc
list-there f other (number n) ds e = cc
list-there f other (string s) ds e = cc
list-there f other (array es) ds e = (let same : ds ≡ es = cc in ap f (sym same))
list-there f other (object ms) ds e = cc

pub no-list : {A : Type 0} (f : Items → A) (other : A) (d : Data) → None ≡ as_array d → in_list f other d ≡ other
no-list f other null e = refl
no-list f other (boolean b) e = refl
no-list f other (number n) e = refl
no-list f other (string s) e = refl
no-list f other (array es) e = cc
no-list f other (object ms) e = refl

pub object-there : {A : Type 0} (f : Members → A) (other : A) (d : Data) (ms : Members) → Some ms ≡ as_object d → in_object f other d ≡ f ms
object-there f other null ms e = cc
object-there f other (boolean b) ms e = cc
object-there f other (number n) ms e = cc
object-there f other (string s) ms e = cc
object-there f other (array es) ms e = cc
object-there f other (object ns) ms e = (let same : ms ≡ ns = cc in ap f (sym same))

pub no-object : {A : Type 0} (f : Members → A) (other : A) (d : Data) → None ≡ as_object d → in_object f other d ≡ other
no-object f other null e = refl
no-object f other (boolean b) e = refl
no-object f other (number n) e = refl
no-object f other (string s) e = refl
no-object f other (array es) e = refl
no-object f other (object ms) e = cc
