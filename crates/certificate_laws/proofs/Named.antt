-- The shapes of the keywords, by the names under which they refuse.
use Rattle.std.proofs.Common.{◌≡◌, ℕ, ℤ, List, [], ◌∷◌, Bool, true, false, ◌||◌, bytes_eq, codes, is_some, Option, Some, None, Result, Ok, Err, refl, sym, ◌∙◌, subst, true≢false}
use Rattle.std.specs.List.{AllByRecursion}
use Rattle.std.specs.Prelude.{if◌then◌else◌, option_and_then}
use Rattle.std.proofs.lemmas.Slice.Eq.{bytes_eq-Decides}
use Rattle.serde_json.specs.Data.{Data, null, boolean, number, string, array, object, Items}
use Rattle.serde_json.specs.Find.{as_str, as_array, as_bool}
use Rattle.json_values.specs.Pointers.{escape}
use Rattle.schema_definitions.specs.Places.{is_schema}
use Rattle.json_values.specs.Texts.{count_items}
use Rattle.schema_definitions.specs.Lookup.{Target, LookupCause, lookup}
use Rattle.schema_definitions.specs.Scopes.{dynamic_lookup, recursive_lookup}
use Rattle.schema_meaning.specs.Members.{In, first, later, is_listed}
use Rattle.schema_meaning.specs.Keywords.{Assertion, named, types, constant, enumeration, multiple_of, maximum, exclusive_maximum, minimum, exclusive_minimum, maximum_of_draft_4, minimum_of_draft_4, max_length, min_length, pattern, max_items, min_items, max_properties, min_properties, dependent_required, Form, by_pattern, of_others, Shape, asserts, asks_every, asks_together, asks_names, asks_some, asks_one, asks_no, items, item_list, prefix_items, properties, dependent_schemas, all_of, any_of, one_of, negation, additional_items, no_additional_items, additional_properties, no_additional_properties, no_properties, Reference, static, dynamic, recursive, reference_name, reference, never, contains, pattern_properties, property_names, no_property_names, dependencies, condition}
use Rattle.schema_definitions.specs.Sites.{Site, target_site}
use Rattle.schema_definitions.specs.Values.{type_names, count_of, positive_of, whole_number, unique_names}
use Rattle.schema_definitions.specs.Rows.{BuildCause, bad_pattern, refused, place_at, is_made, pattern_row, patterns_wrong, names_of_object, pattern_properties_row, behind_items, additional_items_row, is_false, declared_beside, is_alone, refuses_others, additional_properties_row, property_names_row, Row, nothing_read, reads, Context, counts_here, at, bad_value, subschema, each_subschema, each_named, row_of, one_schema, schema_list, sites_named, schema_map, asserted, assertion, length_of_list, beside, takes_list, items_row, with_causes, no_schema_there, led_to, ref_row, dynamic_row, is_hash, recursive_row, is_draft_4, is_true, unique_row, unless_empty, required_entries, dependent_required_row, Reader, readers, read_among, row_at, contains_row, bound_row, sites_applied, dependency_entries, dependencies_row, schema_beside, if_row, consequent_row}
use Rattle.certificate_laws.specs.Words.{IsAskedBy, AsksPatternsBy, HasPatternsBy, IsOf, IsUnder, member_of, Bears, count_names, choice_names, LeadsBack}
use Rattle.certificate_laws.proofs.Added.{own_name}

-- what is read as asked under one name: by patterns, under that of their keyword
abbrev IsReadBy : {S : Type 0} → List ℕ → List ℕ → Form S → Type 0
IsReadBy k name (by_pattern ps) = (name ≡ k) × (codes "patternProperties" ≡ k)
IsReadBy k name (of_others declared s) = (name ≡ k) × (codes "additionalProperties" ≡ k)
IsReadBy k name form = IsAskedBy k name form

abbrev IsRead : {S : Type 0} → List ℕ → Shape S → Type 0
IsRead k (asks_every name form) = IsReadBy k name form
IsRead k (asks_together name form) = IsReadBy k name form
IsRead k (asks_some name form) = IsReadBy k name form
IsRead k (asks_one name form) = IsReadBy k name form
IsRead k shape = IsOf k shape

form_read : {S : Type 0} (k name : List ℕ) (form : Form S) → IsReadBy k name form → IsAskedBy k name form × AsksPatternsBy k form
form_read k name (by_pattern ps) h = h
form_read k name (of_others declared s) h = h
form_read k name form h = (h, tt)

shape_read : {S : Type 0} (k : List ℕ) (shape : Shape S) → IsRead k shape → IsOf k shape × HasPatternsBy k shape
shape_read k (asks_every name form) h = form_read k name form h
shape_read k (asks_together name form) h = form_read k name form h
shape_read k (asks_some name form) h = form_read k name form h
shape_read k (asks_one name form) h = form_read k name form h
shape_read k shape h = (h, tt)

abbrev AreOf : List ℕ → Row → Type 0
AreOf k row = AllByRecursion (IsRead k) row.shapes

-- ---- one keyword after another

of_row : {A : Type 0} (k : List ℕ) (leads : A → List Site) (shapes : A → List (Shape Site)) → ((x : A) → AllByRecursion (IsRead k) (shapes x)) → (r : Result A (List BuildCause))
    → AreOf k (row_of leads shapes r)
of_row k leads shapes h (Ok x) = h x
of_row k leads shapes h (Err e) = tt

of_causes : (k : List ℕ) (causes : List BuildCause) (row : Row) → AreOf k row → AreOf k (with_causes causes row)
of_causes k [] row h = h
of_causes k (c ∷ cs) row h = tt

of_led : (x : Context) (kind : Reference) (t : List ℕ) (r : Result Target LookupCause) → AreOf (reference_name kind) (led_to x (reference_name kind) kind t r)
of_led x kind t (Err cause) = tt
of_led x kind t (Ok target) =
    let site = target_site x.site t target in
    let k = reference_name kind in
    of_causes k (no_schema_there target) (reads (site ∷ []) (reference kind site ∷ [])) (refl, tt)

of_ref : (x : Context) (o : Option (List ℕ)) → AreOf (codes "$ref") (ref_row x (codes "$ref") o)
of_ref x None = tt
of_ref x (Some t) = of_led x static t (lookup x.documents x.site.base t)

of_dynamic : (x : Context) (o : Option (List ℕ)) → AreOf (codes "$dynamicRef") (dynamic_row x (codes "$dynamicRef") o)
of_dynamic x None = tt
of_dynamic x (Some t) = of_led x dynamic t (dynamic_lookup x.documents x.site.base x.site.scope t)

of_recursive : (x : Context) (d : Data) → AreOf (codes "$recursiveRef") (recursive_row x (codes "$recursiveRef") d)
of_recursive x d = by (is_hash (as_str d))
  where
    by : (b : Bool) → AreOf (codes "$recursiveRef")
        (if b then led_to x (codes "$recursiveRef") recursive (codes "#") (recursive_lookup x.documents x.site.base x.site.scope) else bad_value x (codes "$recursiveRef") (codes "text #"))
    by true = of_led x recursive (codes "#") (recursive_lookup x.documents x.site.base x.site.scope)
    by false = tt

of_asserted : {A : Type 0} (x : Context) (k word : List ℕ) (shapes : A → List (Shape Site)) → ((a : A) → AllByRecursion (IsRead k) (shapes a)) → (o : Option A)
    → AreOf k (asserted x k word shapes o)
of_asserted x k word shapes h None = tt
of_asserted x k word shapes h (Some a) = h a

of_count : (x : Context) (k : List ℕ) (a : ℕ → Assertion) → ((n : ℕ) → named (a n) ≡ k) → (o : Option ℕ) → AreOf k (asserted x k (codes "count") (λ n. assertion (a n)) o)
of_count x k a h o = of_asserted x k (codes "count") (λ n. assertion (a n)) (λ n. (h n, tt)) o

of_list : (x : Context) (k word : List ℕ) (shape : List Site → Shape Site) → ((ss : List Site) → IsRead k (shape ss)) → (d : Data) → AreOf k (schema_list x k word shape d)
of_list x k word shape h null = tt
of_list x k word shape h (boolean b) = tt
of_list x k word shape h (number n) = tt
of_list x k word shape h (string s) = tt
of_list x k word shape h (array ds) = of_row k (λ ss. ss) (λ ss. shape ss ∷ []) (λ ss. (h ss, tt)) (each_subschema x k 0 ds)
of_list x k word shape h (object ms) = tt

of_items : (x : Context) (d : Data) → AreOf (codes "items") (items_row x (codes "items") d)
of_items x d = by (is_schema d) (takes_list x.site.dialect.draft)
  where
    by : (b c : Bool)
        → AreOf (codes "items") (if b then one_schema x (codes "items") (λ s. items (length_of_list (beside x (codes "prefixItems"))) s ∷ []) d
        else (if c then schema_list x (codes "items") (codes "schema or list") item_list d else bad_value x (codes "items") (codes "schema")))
    by true c = of_row (codes "items") (λ s. s ∷ []) (λ s. items (length_of_list (beside x (codes "prefixItems"))) s ∷ []) (λ s. (refl, tt)) (subschema x (at (codes "items")) d)
    by false true = of_list x (codes "items") (codes "schema or list") item_list (λ ss. refl) d
    by false false = tt

of_additional : (x : Context) (d : Data) → AreOf (codes "additionalItems") (additional_items_row x (codes "additionalItems") d)
of_additional x d = by (option_and_then as_array (beside x (codes "items")))
  where
    shape_of : (b : Bool) (start : ℕ) (s : Site) → IsRead (codes "additionalItems") (if b then no_additional_items start s else additional_items start s)
    shape_of true start s = refl
    shape_of false start s = refl

    by : (o : Option Items) → AreOf (codes "additionalItems") (behind_items x (codes "additionalItems") d o)
    by None = tt
    by (Some ds) =
        of_row (codes "additionalItems") (λ s. s ∷ []) (λ s. (if is_false d then no_additional_items (count_items ds) s else additional_items (count_items ds) s) ∷ [])
        (λ s. (shape_of (is_false d) (count_items ds) s, tt)) (subschema x (at (codes "additionalItems")) d)

of_map : (x : Context) (k : List ℕ) (shape : List (List ℕ × Site) → Shape Site) → ((ps : List (List ℕ × Site)) → IsRead k (shape ps)) → (d : Data) → AreOf k (schema_map x k shape d)
of_map x k shape h null = tt
of_map x k shape h (boolean b) = tt
of_map x k shape h (number n) = tt
of_map x k shape h (string s) = tt
of_map x k shape h (array ds) = tt
of_map x k shape h (object ms) = of_row k sites_named (λ ps. shape ps ∷ []) (λ ps. (h ps, tt)) (each_named x k ms)

-- ---- of a name of a list

pub listed_in : (k : List ℕ) (names : List (List ℕ)) → is_listed k names ≡ true → In k names
listed_in k [] e = absurd (true≢false (sym e))
listed_in k (n ∷ names) e = by (bytes_eq k n) refl e (listed_in k names)
  where
    by : (b : Bool) → bytes_eq k n ≡ b → (b || is_listed k names) ≡ true → (is_listed k names ≡ true → In k names) → In k (n ∷ names)
    by true is e rest = subst (λ m. In k (m ∷ names)) ((bytes_eq-Decides k n).0 is) first
    by false is e rest = later (rest e)

of_unique : (x : Context) (o : Option Bool) → AreOf (codes "uniqueItems") (unique_row x (codes "uniqueItems") o)
of_unique x None = tt
of_unique x (Some true) = (refl, tt)
of_unique x (Some false) = tt

of_required : (x : Context) (o : Option (List (List ℕ))) → AreOf (codes "required") (asserted x (codes "required") (codes "unique names") unless_empty o)
of_required x None = tt
of_required x (Some []) = tt
of_required x (Some (n ∷ ns)) = (refl, tt)

of_dependent : (x : Context) (d : Data) → AreOf (codes "dependentRequired") (dependent_required_row x (codes "dependentRequired") d)
of_dependent x null = tt
of_dependent x (boolean b) = tt
of_dependent x (number n) = tt
of_dependent x (string s) = tt
of_dependent x (array ds) = tt
of_dependent x (object ms) =
    of_row (codes "dependentRequired") (λ ps. []) (λ ps. assertion (dependent_required ps)) (λ ps. (refl, tt)) (required_entries x (codes "dependentRequired") ms)

of_dependencies : (x : Context) (d : Data) → AreOf (codes "dependencies") (dependencies_row x (codes "dependencies") d)
of_dependencies x null = tt
of_dependencies x (boolean b) = tt
of_dependencies x (number n) = tt
of_dependencies x (string s) = tt
of_dependencies x (array ds) = tt
of_dependencies x (object ms) =
    of_row (codes "dependencies") sites_applied (λ ps. dependencies ps ∷ []) (λ ps. (refl, tt)) (dependency_entries x (codes "dependencies") ms)

-- ---- the limits of Draft 4 refuse under the name of the boolean that makes them strict

abbrev pub AreUnder : Context → List ℕ → Row → Type 0
AreUnder x k row = AllByRecursion (IsUnder (is_draft_4 x.site.dialect.draft) k) row.shapes

-- and each has patterns by the member's name
abbrev AreRead : Bool → List ℕ → List (Shape Site) → Type 0
AreRead b k shapes = AllByRecursion (λ s. IsUnder b k s × HasPatternsBy k s) shapes

abbrev RowIsRead : Context → List ℕ → Row → Type 0
RowIsRead x k row = AreRead (is_draft_4 x.site.dialect.draft) k row.shapes

-- a shape that refuses under one name
one_name : {S : Type 0} (shape : Shape S) (k n : List ℕ) → IsOf k shape → Bears n shape → k ≡ n
one_name never k n h g = absurd h
one_name (asserts a) k n h g = sym h ∙ g
one_name (asks_every name form) k n h g = sym (own_name form h) ∙ own_name form g
one_name (asks_together name form) k n h g = sym (own_name form h) ∙ own_name form g
one_name (asks_names name s) k n h g = sym h ∙ g
one_name (asks_some name form) k n h g = sym (own_name form h) ∙ own_name form g
one_name (asks_one name form) k n h g = sym (own_name form h) ∙ own_name form g
one_name (asks_no name schema s) k n h g = sym h ∙ g
one_name (contains s least most) k n h g = absurd h
one_name (condition s t e) k n h g = absurd h
one_name (reference r s) k n h g = sym h ∙ g

its_name : {S : Type 0} (shape : Shape S) (k : List ℕ) → IsOf k shape → Bears k shape
its_name never k h = h
its_name (asserts a) k h = h
its_name (asks_every name form) k h = h
its_name (asks_together name form) k h = h
its_name (asks_names name s) k h = h
its_name (asks_some name form) k h = h
its_name (asks_one name form) k h = h
its_name (asks_no name schema s) k h = h
its_name (contains s least most) k h = absurd h
its_name (condition s t e) k h = absurd h
its_name (reference r s) k h = h

under_one : {S : Type 0} (b : Bool) (member k : List ℕ) (shape : Shape S) → IsOf k shape → member_of b k ≡ member → escape k ≡ k → IsUnder b member shape
under_one b member k shape h of_member plain =
    let back : LeadsBack b member k = record { of_member = of_member; plain = plain } in
    record { name = k; named = its_name shape k h; back = λ n g. subst (LeadsBack b member) (one_name shape k n h g) back }

under_maximum : (b strict : Bool) (z : ℤ) → IsUnder {S = Site} b (codes "maximum") (asserts (if b then maximum_of_draft_4 z strict else maximum z))
unfolding escape
under_maximum true true z = under_one true (codes "maximum") (codes "exclusiveMaximum") (asserts (maximum_of_draft_4 z true)) refl refl refl
under_maximum true false z = under_one true (codes "maximum") (codes "maximum") (asserts (maximum_of_draft_4 z false)) refl refl refl
under_maximum false strict z = under_one false (codes "maximum") (codes "maximum") (asserts (maximum z)) refl refl refl

under_minimum : (b strict : Bool) (z : ℤ) → IsUnder {S = Site} b (codes "minimum") (asserts (if b then minimum_of_draft_4 z strict else minimum z))
unfolding escape
under_minimum true true z = under_one true (codes "minimum") (codes "exclusiveMinimum") (asserts (minimum_of_draft_4 z true)) refl refl refl
under_minimum true false z = under_one true (codes "minimum") (codes "minimum") (asserts (minimum_of_draft_4 z false)) refl refl refl
under_minimum false strict z = under_one false (codes "minimum") (codes "minimum") (asserts (minimum z)) refl refl refl

of_maximum : (x : Context) (o : Option ℤ) → RowIsRead x (codes "maximum")
    (asserted x (codes "maximum") (codes "number") (λ z. assertion (if is_draft_4 x.site.dialect.draft then maximum_of_draft_4 z (is_true (beside x (codes "exclusiveMaximum"))) else maximum z)) o)
of_maximum x None = tt
of_maximum x (Some z) = ((under_maximum (is_draft_4 x.site.dialect.draft) (is_true (beside x (codes "exclusiveMaximum"))) z, tt), tt)

of_minimum : (x : Context) (o : Option ℤ) → RowIsRead x (codes "minimum")
    (asserted x (codes "minimum") (codes "number") (λ z. assertion (if is_draft_4 x.site.dialect.draft then minimum_of_draft_4 z (is_true (beside x (codes "exclusiveMinimum"))) else minimum z)) o)
of_minimum x None = tt
of_minimum x (Some z) = ((under_minimum (is_draft_4 x.site.dialect.draft) (is_true (beside x (codes "exclusiveMinimum"))) z, tt), tt)

-- from Draft 6 on they are keywords of their own
of_strict : (x : Context) (k : List ℕ) (a : ℤ → Assertion) → ((z : ℤ) → IsUnder {S = Site} false k (asserts (a z))) → (o : Option ℤ) (b : Bool)
    → AreRead b k (if b then nothing_read else asserted x k (codes "number") (λ z. assertion (a z)) o).shapes
of_strict x k a h o true = tt
of_strict x k a h None false = tt
of_strict x k a h (Some z) false = ((h z, tt), tt)

under_strict_maximum : (z : ℤ) → IsUnder {S = Site} false (codes "exclusiveMaximum") (asserts (exclusive_maximum z))
unfolding escape
under_strict_maximum z = under_one false (codes "exclusiveMaximum") (codes "exclusiveMaximum") (asserts (exclusive_maximum z)) refl refl refl

under_strict_minimum : (z : ℤ) → IsUnder {S = Site} false (codes "exclusiveMinimum") (asserts (exclusive_minimum z))
unfolding escape
under_strict_minimum z = under_one false (codes "exclusiveMinimum") (codes "exclusiveMinimum") (asserts (exclusive_minimum z)) refl refl refl

-- the other keywords refuse under their own name
own : (b : Bool) (k : List ℕ) → member_of b k ≡ k → escape k ≡ k → (shapes : List (Shape Site)) → AllByRecursion (IsRead k) shapes → AreRead b k shapes
own b k same plain [] h = tt
own b k same plain (s ∷ shapes) h =
    let is = shape_read k s h.0 in
    ((under_one b k k s is.0 same plain, is.1), own b k same plain shapes h.1)

-- `contains` refuses under its own name or that of a bound
count_back : (b : Bool) (n : List ℕ) → In n count_names → LeadsBack b (codes "contains") n
unfolding escape
count_back b _ first = record { of_member = refl; plain = refl }
count_back b _ (later first) = record { of_member = refl; plain = refl }
count_back b _ (later (later first)) = record { of_member = refl; plain = refl }
count_back b n (later (later (later i))) = elim i [ ]

under_count : (b : Bool) (s : Site) (least most : Option ℕ) → IsUnder b (codes "contains") (contains s least most)
under_count b s least most = record { name = codes "contains"; named = first; back = count_back b }

of_contains : (x : Context) (d : Data) → RowIsRead x (codes "contains") (contains_row x (codes "contains") d)
of_contains x d = by (option_and_then count_of (beside x (codes "minContains"))) (option_and_then count_of (beside x (codes "maxContains"))) (subschema x (at (codes "contains")) d)
  where
    by : (least most : Option ℕ) (r : Result Site (List BuildCause)) → RowIsRead x (codes "contains") (row_of (λ s. s ∷ []) (λ s. contains s least most ∷ []) r)
    by least most (Ok s) = ((under_count (is_draft_4 x.site.dialect.draft) s least most, tt), tt)
    by least most (Err causes) = tt

-- the bounds have no shapes of their own
of_bound : (x : Context) (k : List ℕ) (d : Data) → RowIsRead x k (bound_row x k d)
of_bound x k d = by (is_some (beside x (codes "contains"))) (count_of d)
  where
    by : (b : Bool) (o : Option ℕ) → RowIsRead x k (if b then asserted x k (codes "count") (λ n. []) o else nothing_read)
    by true None = tt
    by true (Some n) = tt
    by false o = tt

-- `if` refuses under the name of what it chooses
choice_back : (b : Bool) (n : List ℕ) → In n choice_names → LeadsBack b (codes "if") n
unfolding escape
choice_back b _ first = record { of_member = refl; plain = refl }
choice_back b _ (later first) = record { of_member = refl; plain = refl }
choice_back b _ (later (later first)) = record { of_member = refl; plain = refl }
choice_back b n (later (later (later i))) = elim i [ ]

under_choice : (b : Bool) (s : Site) (t e : Option Site) → IsUnder b (codes "if") (condition s t e)
under_choice b s t e = record { name = codes "if"; named = first; back = choice_back b }

of_if : (x : Context) (d : Data) → RowIsRead x (codes "if") (if_row x (codes "if") d)
of_if x d =
    by (is_some (beside x (codes "then")) || is_some (beside x (codes "else"))) (schema_beside x (codes "then")) (schema_beside x (codes "else")) (subschema x (at (codes "if")) d)
  where
    by : (b : Bool) (t e : Option Site) (r : Result Site (List BuildCause))
        → RowIsRead x (codes "if") (if b then row_of (λ s. s ∷ []) (λ s. condition s t e ∷ []) r else nothing_read)
    by true t e (Ok s) = ((under_choice (is_draft_4 x.site.dialect.draft) s t e, tt), tt)
    by true t e (Err causes) = tt
    by false t e r = tt

-- `then` and `else` have no shapes of their own
of_consequent : (x : Context) (k : List ℕ) (d : Data) → RowIsRead x k (consequent_row x k d)
of_consequent x k d = by (is_some (beside x (codes "if"))) (subschema x (at k) d)
  where
    by : (b : Bool) (r : Result Site (List BuildCause)) → RowIsRead x k (if b then row_of (λ s. s ∷ []) (λ s. []) r else nothing_read)
    by true (Ok s) = tt
    by true (Err causes) = tt
    by false r = tt

-- `additionalProperties` is read by what stands beside
of_other_members : (x : Context) (d : Data) → AreOf (codes "additionalProperties") (additional_properties_row x (codes "additionalProperties") d)
of_other_members x null = tt
of_other_members x (boolean true) = tt
of_other_members x (boolean false) =
    of_row (codes "additionalProperties") (λ s. s ∷ []) (λ s. refuses_others x s ∷ []) (λ s. (refusing (is_alone x) s, tt)) (subschema x (at (codes "additionalProperties")) (boolean false))
  where
    refusing : (b : Bool) (s : Site) → IsRead (codes "additionalProperties") (if b then no_properties s else no_additional_properties (declared_beside x) s)
    refusing true s = refl
    refusing false s = (refl, refl)
of_other_members x (number n) = tt
of_other_members x (string s) = tt
of_other_members x (array ds) = tt
of_other_members x (object ms) =
    of_row (codes "additionalProperties") (λ s. s ∷ []) (λ s. additional_properties (declared_beside x) s ∷ []) (λ s. ((refl, refl), tt)) (subschema x (at (codes "additionalProperties")) (object ms))

of_pattern : (x : Context) (o : Option (List ℕ)) → AreOf (codes "pattern") (pattern_row x (codes "pattern") o)
of_pattern x None = tt
of_pattern x (Some p) = by (is_made x p)
  where
    by : (b : Bool) → AreOf (codes "pattern") (if b then reads [] (assertion (pattern p)) else refused (bad_pattern (place_at x (at (codes "pattern"))) ∷ []))
    by true = (refl, tt)
    by false = tt

of_patterns : (x : Context) (d : Data) → AreOf (codes "patternProperties") (pattern_properties_row x (codes "patternProperties") d)
of_patterns x d =
    let k = codes "patternProperties" in
    of_causes k (patterns_wrong x k (names_of_object (Some d))) (schema_map x k pattern_properties d) (of_map x k pattern_properties (λ ps. (refl, refl)) d)

of_names : (x : Context) (d : Data) → AreOf (codes "propertyNames") (property_names_row x (codes "propertyNames") d)
of_names x null = tt
of_names x (boolean true) = tt
of_names x (boolean false) =
    of_row (codes "propertyNames") (λ s. s ∷ []) (λ s. no_property_names s ∷ []) (λ s. (refl, tt)) (subschema x (at (codes "propertyNames")) (boolean false))
of_names x (number n) = tt
of_names x (string s) = tt
of_names x (array ds) = tt
of_names x (object ms) = of_row (codes "propertyNames") (λ s. s ∷ []) (λ s. property_names s ∷ []) (λ s. (refl, tt)) (subschema x (at (codes "propertyNames")) (object ms))

infixr 5 ◌&◌
-- a pair, that a fact of each reader be written in a row
abbrev ◌&◌ : {A B : Type 0} → A → B → A × B
h & hs = (h, hs)

-- the row of each reader is under its name
each_reader : (x : Context) (d : Data) → AllByRecursion (λ r. RowIsRead x r.0 (r.1 x r.0 d)) readers
unfolding escape
each_reader x d =
    let old = is_draft_4 x.site.dialect.draft in
    own old (codes "$ref") refl refl _ (of_ref x (as_str d))
    & own old (codes "$dynamicRef") refl refl _ (of_dynamic x (as_str d))
    & own old (codes "$recursiveRef") refl refl _ (of_recursive x d)
    & own old (codes "type") refl refl _ (of_asserted x (codes "type") (codes "type name") (λ ts. assertion (types ts)) (λ ts. (refl, tt)) (type_names d))
    & own old (codes "enum") refl refl _ (of_asserted x (codes "enum") (codes "list") (λ ds. assertion (enumeration ds)) (λ ds. (refl, tt)) (as_array d))
    & own old (codes "const") refl refl (assertion (constant d)) (refl, tt)
    & own old (codes "multipleOf") refl refl _ (of_asserted x (codes "multipleOf") (codes "positive number") (λ n. assertion (multiple_of n)) (λ n. (refl, tt)) (positive_of d))
    & of_maximum x (whole_number d)
    & of_minimum x (whole_number d)
    & of_strict x (codes "exclusiveMaximum") exclusive_maximum under_strict_maximum (whole_number d) old
    & of_strict x (codes "exclusiveMinimum") exclusive_minimum under_strict_minimum (whole_number d) old
    & own old (codes "maxLength") refl refl _ (of_count x (codes "maxLength") max_length (λ n. refl) (count_of d))
    & own old (codes "minLength") refl refl _ (of_count x (codes "minLength") min_length (λ n. refl) (count_of d))
    & own old (codes "pattern") refl refl _ (of_pattern x (as_str d))
    & own old (codes "maxItems") refl refl _ (of_count x (codes "maxItems") max_items (λ n. refl) (count_of d))
    & own old (codes "minItems") refl refl _ (of_count x (codes "minItems") min_items (λ n. refl) (count_of d))
    & own old (codes "uniqueItems") refl refl _ (of_unique x (as_bool d))
    & own old (codes "maxProperties") refl refl _ (of_count x (codes "maxProperties") max_properties (λ n. refl) (count_of d))
    & own old (codes "minProperties") refl refl _ (of_count x (codes "minProperties") min_properties (λ n. refl) (count_of d))
    & own old (codes "required") refl refl _ (of_required x (unique_names d))
    & own old (codes "dependentRequired") refl refl _ (of_dependent x d)
    & own old (codes "items") refl refl _ (of_items x d)
    & own old (codes "prefixItems") refl refl _ (of_list x (codes "prefixItems") (codes "list") prefix_items (λ ss. refl) d)
    & own old (codes "additionalItems") refl refl _ (of_additional x d)
    & of_contains x d
    & of_bound x (codes "minContains") d
    & of_bound x (codes "maxContains") d
    & own old (codes "properties") refl refl _ (of_map x (codes "properties") properties (λ ps. refl) d)
    & own old (codes "patternProperties") refl refl _ (of_patterns x d)
    & own old (codes "additionalProperties") refl refl _ (of_other_members x d)
    & own old (codes "propertyNames") refl refl _ (of_names x d)
    & own old (codes "dependentSchemas") refl refl _ (of_map x (codes "dependentSchemas") dependent_schemas (λ ps. refl) d)
    & own old (codes "dependencies") refl refl _ (of_dependencies x d)
    & own old (codes "allOf") refl refl _ (of_list x (codes "allOf") (codes "list") all_of (λ ss. refl) d)
    & own old (codes "anyOf") refl refl _ (of_list x (codes "anyOf") (codes "list") any_of (λ ss. refl) d)
    & own old (codes "oneOf") refl refl _ (of_list x (codes "oneOf") (codes "list") one_of (λ ss. refl) d)
    & own old (codes "not") refl refl _ (of_row (codes "not") (λ s. s ∷ []) (λ s. negation d s ∷ []) (λ s. (refl, tt)) (subschema x (at (codes "not")) d))
    & of_if x d
    & of_consequent x (codes "then") d
    & of_consequent x (codes "else") d
    & tt
    & tt
    & tt

-- what is none of their names has no row
of_readers : (x : Context) (k : List ℕ) (d : Data) (rs : List (List ℕ × Reader)) → AllByRecursion (λ r. RowIsRead x r.0 (r.1 x r.0 d)) rs → RowIsRead x k (read_among rs x k d)
of_readers x k d [] h = tt
of_readers x k d (r ∷ rs) h = by (bytes_eq r.0 k) refl (of_readers x k d rs h.1)
  where
    by : (b : Bool) → bytes_eq r.0 k ≡ b → RowIsRead x k (read_among rs x k d) → RowIsRead x k (if b then r.1 x k d else read_among rs x k d)
    by true e rest = subst (λ n. RowIsRead x n (r.1 x n d)) ((bytes_eq-Decides r.0 k).0 e) h.0
    by false e rest = rest

-- the row of a member
row_is_read : (x : Context) (k : List ℕ) (d : Data) → RowIsRead x k (row_at x k d)
row_is_read x k d = by (counts_here x k)
  where
    by : (b : Bool) → RowIsRead x k (if b then read_among readers x k d else nothing_read)
    by true = of_readers x k d readers (each_reader x d)
    by false = tt

module _ (b : Bool) (k : List ℕ) where
  all_under : (shapes : List (Shape Site)) → AreRead b k shapes → AllByRecursion (IsUnder b k) shapes
  all_under [] h = tt
  all_under (s ∷ shapes) h = (h.0.0, all_under shapes h.1)

  all_patterns : (shapes : List (Shape Site)) → AreRead b k shapes → AllByRecursion (HasPatternsBy k) shapes
  all_patterns [] h = tt
  all_patterns (s ∷ shapes) h = (h.0.1, all_patterns shapes h.1)

-- the shapes of a member
pub shapes_are_under : (x : Context) (k : List ℕ) (d : Data) → AreUnder x k (row_at x k d)
shapes_are_under x k d = all_under (is_draft_4 x.site.dialect.draft) k (row_at x k d).shapes (row_is_read x k d)

-- they have patterns by its name
pub shapes_have_patterns : (x : Context) (k : List ℕ) (d : Data) → AllByRecursion (HasPatternsBy k) (row_at x k d).shapes
shapes_have_patterns x k d = all_patterns (is_draft_4 x.site.dialect.draft) k (row_at x k d).shapes (row_is_read x k d)
