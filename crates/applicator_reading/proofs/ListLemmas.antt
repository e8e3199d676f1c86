-- Rows of keywords whose values are lists of schemas, and the members of objects of schemas.
use Rattle.std.proofs.Common.{◌≡◌, ℕ, suc, List, [], ◌∷◌, ◌++◌, Bool, true, false, codes, Some, None, refl, sym, ap, ap₂, ◌∙◌, subst}
use Rattle.std.specs.Prelude.{if◌then◌else◌, Result, Ok, Err}
use Rattle.serde_json.specs.Data.{Data, null, boolean, number, string, array, object, Items, no_items, item, Members, no_members, member}
use Rattle.serde_json.specs.Find.{as_array, as_object}
use Rattle.json_values.specs.Parts.{name, index}
use Rattle.schema_definitions.specs.Places.{is_schema}
use Rattle.schema_meaning.specs.Keywords.{Shape}
use Rattle.schema_meaning.specs.Members.{In, first, later}
use Rattle.schema_definitions.specs.Sites.{Site}
use Rattle.schema_definitions.specs.Rows.{Row, BuildCause, row_of, reads, bad_value, keyword_value, place_at, at, Context, and_more, each_subschema, each_named, in_list, in_object}
use Rattle.applicators.specs.Shapes.{sites_of_list, sites_of_map, shape_of, leads_of}
use Rattle.applicator_reading.proofs.RowLemmas.{value-cause}
use Rattle.applicator_reading.specs.Arms.{list_name, list_word, list_shape, list_row}
use Rattle.applicator_reading.specs.Others.{first_other_item, first_other_member}
use Rattle.applicators.specs.Applied.{Applicator}
use Rattle.applicator_reading.specs.Reads.{site_in, IsCause, IsRefusedFor}
use Rattle.applicator_reading.specs.declared.keyword.ListKeyword.{ListKeyword}

pub list-there : {A : Type 0} (f : Items → A) (other : A) (d : Data) (ds : Items) → Some ds ≡ as_array d → in_list f other d ≡ f ds
list-there f other null ds e = cc
list-there f other (boolean b) ds e = cc
list-there f other (number n) ds e = cc
list-there f other (string s) ds e = cc
list-there f other (array es) ds e = let same : ds ≡ es = cc in ap f (sym same)
list-there f other (object ms) ds e = cc

pub no-list : {A : Type 0} (f : Items → A) (other : A) (d : Data) → None ≡ as_array d → in_list f other d ≡ other
no-list f other null e = refl
no-list f other (boolean b) e = refl
no-list f other (number n) e = refl
no-list f other (string s) e = refl
no-list f other (array es) e = cc
no-list f other (object ms) e = refl

pub object-there : {A : Type 0} (f : Members → A) (other : A) (d : Data) (ms : Members) → Some ms ≡ as_object d → in_object f other d ≡ f ms
object-there f other null ms e = cc
object-there f other (boolean b) ms e = cc
object-there f other (number n) ms e = cc
object-there f other (string s) ms e = cc
object-there f other (array es) ms e = cc
object-there f other (object ns) ms e = let same : ms ≡ ns = cc in ap f (sym same)

pub no-object : {A : Type 0} (f : Members → A) (other : A) (d : Data) → None ≡ as_object d → in_object f other d ≡ other
no-object f other null e = refl
no-object f other (boolean b) e = refl
no-object f other (number n) e = refl
no-object f other (string s) e = refl
no-object f other (array es) e = refl
no-object f other (object ms) e = cc

pub in_front : {A : Type 0} (x : A) (xs ys : List A) → In x xs → In x (xs ++ ys)
in_front x [] ys h = elim h [ ]
in_front x (y ∷ xs) ys first = first
in_front x (y ∷ xs) ys (later h) = later (in_front x xs ys h)

pub refused_first : {A : Type 0} (cause : BuildCause) (r : Result A (List BuildCause)) (rest : Result (List A) (List BuildCause)) → IsRefusedFor cause r → IsRefusedFor cause (and_more r rest)
refused_first cause (Ok x) rest h = absurd h
refused_first cause (Err wrong) (Ok xs) h = h
refused_first cause (Err wrong) (Err more) h = in_front cause wrong more h

pub refused_more : {A : Type 0} (cause : BuildCause) (x : A) (r : Result (List A) (List BuildCause)) → IsRefusedFor cause r → IsRefusedFor cause (and_more (Ok x) r)
refused_more cause x (Ok xs) h = absurd h
refused_more cause x (Err more) h = h

pub row_refused : {A : Type 0} (leads : A → List Site) (shapes : A → List (Shape Site)) (cause : BuildCause) (r : Result A (List BuildCause)) → IsRefusedFor cause r → IsCause cause (row_of leads shapes r)
row_refused leads shapes cause (Ok x) h = absurd h
row_refused leads shapes cause (Err causes) h = record { stands = h; alone = refl }

-- ---- lists

module _ (x : Context) (k : List ℕ) where
  right_item : (i : ℕ) (d : Data) (ds : Items) (b : Bool) → is_schema d ≡ b → (if b then first_other_item (suc i) ds else Some i) ≡ None
      → (first_other_item (suc i) ds ≡ None → each_subschema x k (suc i) ds ≡ Ok (sites_of_list (site_in x) k (suc i) ds))
      → each_subschema x k i (item d ds) ≡ Ok (sites_of_list (site_in x) k i (item d ds))
  right_item i d ds true e h rest = rw (e, rest h) refl
  right_item i d ds false e h rest = cc

  items_right : (i : ℕ) (ds : Items) → first_other_item i ds ≡ None → each_subschema x k i ds ≡ Ok (sites_of_list (site_in x) k i ds)
  items_right i no_items h = refl
  items_right i (item d ds) h = right_item i d ds (is_schema d) refl h (items_right (suc i) ds)

  wrong_item : (i j : ℕ) (d : Data) (ds : Items) (b : Bool) → is_schema d ≡ b → (if b then first_other_item (suc i) ds else Some i) ≡ Some j
      → (first_other_item (suc i) ds ≡ Some j → IsRefusedFor (keyword_value (place_at x (index j ∷ name k ∷ [])) (codes "schema")) (each_subschema x k (suc i) ds))
      → IsRefusedFor (keyword_value (place_at x (index j ∷ name k ∷ [])) (codes "schema")) (each_subschema x k i (item d ds))
  wrong_item i j d ds true e h rest =
      rw e (refused_more (keyword_value (place_at x (index j ∷ name k ∷ [])) (codes "schema")) (site_in x (index i ∷ name k ∷ []) d) (each_subschema x k (suc i) ds) (rest h))
  wrong_item i j d ds false e h rest =
      let same : i ≡ j = cc in
      rw (e, sym same)
      (refused_first {A = Site} (keyword_value (place_at x (index i ∷ name k ∷ [])) (codes "schema")) (Err (keyword_value (place_at x (index i ∷ name k ∷ [])) (codes "schema") ∷ [])) (each_subschema x k (suc i) ds) first)

  items_wrong : (i j : ℕ) (ds : Items) → first_other_item i ds ≡ Some j → IsRefusedFor (keyword_value (place_at x (index j ∷ name k ∷ [])) (codes "schema")) (each_subschema x k i ds)
  items_wrong i j no_items h = cc
  items_wrong i j (item d ds) h = wrong_item i j d ds (is_schema d) refl h (items_wrong (suc i) j ds)

  right_member : (n : List ℕ) (d : Data) (ms : Members) (b : Bool) → is_schema d ≡ b → (if b then first_other_member ms else Some n) ≡ None
      → (first_other_member ms ≡ None → each_named x k ms ≡ Ok (sites_of_map (site_in x) k ms)) → each_named x k (member n d ms) ≡ Ok (sites_of_map (site_in x) k (member n d ms))
  right_member n d ms true e h rest = rw (e, rest h) refl
  right_member n d ms false e h rest = cc

  pub members_right : (ms : Members) → first_other_member ms ≡ None → each_named x k ms ≡ Ok (sites_of_map (site_in x) k ms)
  members_right no_members h = refl
  members_right (member n d ms) h = right_member n d ms (is_schema d) refl h (members_right ms)

  wrong_member : (n m : List ℕ) (d : Data) (ms : Members) (b : Bool) → is_schema d ≡ b → (if b then first_other_member ms else Some n) ≡ Some m
      → (first_other_member ms ≡ Some m → IsRefusedFor (keyword_value (place_at x (name m ∷ name k ∷ [])) (codes "schema")) (each_named x k ms))
      → IsRefusedFor (keyword_value (place_at x (name m ∷ name k ∷ [])) (codes "schema")) (each_named x k (member n d ms))
  wrong_member n m d ms true e h rest =
      rw e (refused_more (keyword_value (place_at x (name m ∷ name k ∷ [])) (codes "schema")) (n, site_in x (name n ∷ name k ∷ []) d) (each_named x k ms) (rest h))
  wrong_member n m d ms false e h rest =
      let same : n ≡ m = cc in
      rw (e, sym same)
      (refused_first {A = List ℕ × Site} (keyword_value (place_at x (name n ∷ name k ∷ [])) (codes "schema")) (Err (keyword_value (place_at x (name n ∷ name k ∷ [])) (codes "schema") ∷ [])) (each_named x k ms) first)

  pub members_wrong : (m : List ℕ) (ms : Members) → first_other_member ms ≡ Some m → IsRefusedFor (keyword_value (place_at x (name m ∷ name k ∷ [])) (codes "schema")) (each_named x k ms)
  members_wrong m no_members h = cc
  members_wrong m (member n d ms) h = wrong_member n m d ms (is_schema d) refl h (members_wrong m ms)

-- ---- the rows

module _ (w : ListKeyword) (x : Context) (d : Data) where
  abbrev by_items : Items → Row
  by_items ds = row_of (λ ss. ss) (λ ss. list_shape w ss ∷ []) (each_subschema x (list_name w) 0 ds)

  pub list-right : (ds : Items) (a : Applicator) → Some ds ≡ as_array d → None ≡ first_other_item 0 ds → shape_of (site_in x) a ≡ list_shape w (sites_of_list (site_in x) (list_name w) 0 ds)
      → leads_of (site_in x) a ≡ sites_of_list (site_in x) (list_name w) 0 ds → list_row w x d ≡ reads (leads_of (site_in x) a) (shape_of (site_in x) a ∷ [])
  list-right ds a e none shape leads =
      list-there by_items (bad_value x (list_name w) (list_word w)) d ds e ∙ ap (row_of (λ ss. ss) (λ ss. list_shape w ss ∷ [])) (items_right x (list_name w) 0 ds (sym none))
      ∙ ap₂ reads (sym leads) (ap (λ s. s ∷ []) (sym shape))

  pub list-wrong : (ds : Items) (i : ℕ) → Some ds ≡ as_array d → Some i ≡ first_other_item 0 ds
      → IsCause (keyword_value (place_at x (index i ∷ name (list_name w) ∷ [])) (codes "schema")) (list_row w x d)
  list-wrong ds i e other =
      subst (λ (row : Row). IsCause (keyword_value (place_at x (index i ∷ name (list_name w) ∷ [])) (codes "schema")) row) (sym (list-there by_items (bad_value x (list_name w) (list_word w)) d ds e))
      (row_refused (λ ss. ss) (λ ss. list_shape w ss ∷ []) _ (each_subschema x (list_name w) 0 ds) (items_wrong x (list_name w) 0 i ds (sym other)))

  pub list-other : (word : List ℕ) → None ≡ as_array d → word ≡ list_word w → IsCause (keyword_value (place_at x (at (list_name w))) word) (list_row w x d)
  list-other word e is =
      value-cause x (list_name w) word (list_row w x d) (no-list by_items (bad_value x (list_name w) (list_word w)) d e ∙ ap (bad_value x (list_name w)) (sym is))
