-- What stands at a site under documents and under more of them: the same where nothing is wrong.
use Rattle.std.proofs.Common.{◌≡◌, ◌∙◌, ℕ, ℤ, suc, List, [], ◌∷◌, ◌++◌, Bool, true, false, ◌||◌, bytes_eq, codes, Option, Some, None, Result, Ok, Err, IfOk, IfSome, is_some, option_and_then, refl, sym, ap, ap₂, subst}
use Rattle.std.specs.List.{AllByRecursion, AllZip}
use Rattle.std.specs.Prelude.{if◌then◌else◌}
use Rattle.serde_json.specs.Data.{Data, boolean, array, object, Items, no_items, item, Members, no_members, member}
use Rattle.serde_json.specs.Find.{get_member, as_str, as_array, as_bool}
use Rattle.json_values.specs.Parts.{Part, name, index}
use Rattle.json_values.specs.Texts.{count_items}
use Rattle.schema_definitions.specs.Words.{result_map}
use Rattle.schema_definitions.specs.Places.{by_schema, schema_in_force, is_schema}
use Rattle.schema_definitions.specs.Bearers.{Documents, meta}
use Rattle.schema_definitions.specs.Lookup.{LookupCause, Target, lookup}
use Rattle.schema_definitions.specs.Scopes.{entered_scope, dynamic_lookup, recursive_lookup}
use Rattle.schema_meaning.specs.Keywords.{Assertion, pattern, dependent_required, Reference, static, dynamic, recursive, Dependency, needs, applies, Shape, items, item_list, additional_items, no_additional_items, contains, pattern_properties, additional_properties, property_names, no_property_names, dependencies, condition, reference}
use Rattle.schema_definitions.specs.Sites.{Site, within, below, target_site}
use Rattle.schema_definitions.specs.Values.{type_names, whole_number, count_of, positive_of, names_in, unique_names}
use Rattle.schema_definitions.specs.Rows.{BuildCause, Row, reads, Context, counts_here, beside, at, expected, subschema, and_more, each_subschema, named_result, each_named, row_of, one_schema, schema_list, sites_named, schema_map, asserted, assertion, is_draft_4, strict_limit, is_made, pattern_row, unique_row, length_of_list, takes_list, items_row, is_false, behind_items, contains_row, bound_row, declared_beside, refuses_others, additional_properties_row, patterns_wrong, names_of_object, with_causes, pattern_properties_row, property_names_row, entry_names, required_entry, required_entries, dependent_required_row, dependency_entry, dependency_entries, sites_applied, dependencies_row, schema_beside, if_row, consequent_row, no_schema_there, led_to, ref_row, dynamic_row, is_hash, recursive_row, Reader, readers, read_among, row_at, rows_of}
use Rattle.document_laws.proofs.Depths.{placed_contents}
use Rattle.document_laws.proofs.Results.{ok_map, ok_either, ok_always}
use Rattle.reading_laws.proofs.Elements.{◌&◌}
use Rattle.reading_laws.proofs.Asked.{IsApplied}
use Rattle.reading_laws.proofs.KeywordRows.{Any, each_more, of_named, of_applied}
use Rattle.added_documents.specs.Added.{EachNamedIn, EachNamedAmong, IsToldAlike, IsFree, LeftAlone}
use Rattle.added_documents.proofs.Named.{member_named}
use Rattle.added_documents.proofs.Walking.{same_entered}
use Rattle.added_documents.proofs.Targets.{Known, SameTarget, static_same, dynamic_same, recursive_same}

-- results that are the same, with what is known of the one
record SameResult {A : Type 0} (P : A → Type 0) (r q : Result A (List BuildCause)) : Type 0 where
  same : q ≡ r
  known : IfOk r P

both_more : {A : Type 0} (P : A → Type 0) (r q : Result A (List BuildCause)) (rs qs : Result (List A) (List BuildCause))
    → SameResult P r q → SameResult (AllByRecursion P) rs qs → SameResult (AllByRecursion P) (and_more r rs) (and_more q qs)
both_more P r q rs qs h hs = record { same = ap₂ (λ x xs. and_more x xs) h.same hs.same; known = each_more P r rs h.known hs.known }

both_mapped : {A B : Type 0} (P : A → Type 0) (R : B → Type 0) (f : A → B) → ((x : A) → P x → R (f x)) → (r q : Result A (List BuildCause))
    → SameResult P r q → SameResult R (result_map f r) (result_map f q)
both_mapped P R f g r q h = record { same = ap (result_map f) h.same; known = ok_map P R r f h.known g }

module _ (old more new : Documents) (alone : LeftAlone old more new) where
  -- a site to which one leads, and whose contents are told alike
  pub record KnownAt (s x : Site) : Type 0 where
    pub is : Known old more new alone x.contents
    pub scope : x.scope ≡ entered_scope x.base s.base s.scope

module _ (old more new : Documents) (alone : LeftAlone old more new) (makes : List ℕ → Bool) (s : Site) (ms : Members)
    (frees : AllByRecursion (IsFree more new) s.scope) (inside : EachNamedAmong (IsToldAlike (meta old) (meta new)) ms) where
  abbrev pub one : Context
  one = record { documents = old; makes = makes; site = s; members = ms }

  abbrev pub other : Context
  other = record { documents = new; makes = makes; site = s; members = ms }

  abbrev IsKnown : Data → Type 0
  IsKnown d = Known old more new alone d

  abbrev KnownSite : Site → Type 0
  KnownSite x = KnownAt old more new alone s x

  -- a row under the old documents, and under all of them
  pub record Same (r q : Row) : Type 0 where
    pub same : r.causes ≡ [] → q ≡ r
    pub leads : AllByRecursion KnownSite r.leads

  none_led : (causes : List BuildCause) (shapes : List (Shape Site))
      → Same (record { causes = causes; leads = []; shapes = shapes }) (record { causes = causes; leads = []; shapes = shapes })
  none_led causes shapes = record { same = λ e. refl; leads = tt }

  either : (b : Bool) (r r' q q' : Row) → Same r q → Same r' q' → Same (if b then r else r') (if b then q else q')
  either true r r' q q' h g = h
  either false r r' q q' h g = g

  -- ---- subschemas

  subschemas : (added : List Part) (d : Data) → IsKnown d → SameResult KnownSite (subschema one added d) (subschema other added d)
  subschemas added d h =
      let path = added ++ s.path in
      let named = by_schema (meta old) s.dialect (schema_in_force s.dialect.siblings false d) in
      record {
        same = ap (λ p. if is_schema d then Ok (within s added p) else Err (expected one added (codes "schema"))) (same_entered (meta old) (meta new) s.base s.dialect path d h);
        known =
            ok_either KnownSite (is_schema d) (Ok (below old s added d)) (Err (expected one added (codes "schema")))
            (record { is = subst IsKnown (sym (placed_contents s.base s.dialect path d named)) h; scope = refl }) tt;
      }

  in_items : (k : List ℕ) (i : ℕ) (ds : Items) → EachNamedIn (IsToldAlike (meta old) (meta new)) ds
      → SameResult (AllByRecursion KnownSite) (each_subschema one k i ds) (each_subschema other k i ds)
  in_items k i no_items h = record { same = refl; known = tt }
  in_items k i (item d ds) h =
      both_more KnownSite (subschema one (index i ∷ name k ∷ []) d) (subschema other (index i ∷ name k ∷ []) d) (each_subschema one k (suc i) ds) (each_subschema other k (suc i) ds)
      (subschemas (index i ∷ name k ∷ []) d h.0) (in_items k (suc i) ds h.1)

  abbrev KnownNamed : List ℕ × Site → Type 0
  KnownNamed p = KnownSite p.1

  one_named : (k l : List ℕ) (d : Data) → IsKnown d → SameResult KnownNamed (named_result l (subschema one (name l ∷ name k ∷ []) d)) (named_result l (subschema other (name l ∷ name k ∷ []) d))
  one_named k l d h =
      both_mapped KnownSite KnownNamed (λ x. (l, x)) (λ x g. g) (subschema one (name l ∷ name k ∷ []) d) (subschema other (name l ∷ name k ∷ []) d)
      (subschemas (name l ∷ name k ∷ []) d h)

  in_members : (k : List ℕ) (ns : Members) → EachNamedAmong (IsToldAlike (meta old) (meta new)) ns
      → SameResult (AllByRecursion KnownNamed) (each_named one k ns) (each_named other k ns)
  in_members k no_members h = record { same = refl; known = tt }
  in_members k (member l d ns) h =
      both_more KnownNamed (named_result l (subschema one (name l ∷ name k ∷ []) d)) (named_result l (subschema other (name l ∷ name k ∷ []) d)) (each_named one k ns) (each_named other k ns)
      (one_named k l d h.0) (in_members k ns h.1)

  rows_same : {A : Type 0} (P : A → Type 0) (leads : A → List Site) (shapes : A → List (Shape Site)) → ((x : A) → P x → AllByRecursion KnownSite (leads x))
      → (r q : Result A (List BuildCause)) → SameResult P r q → Same (row_of leads shapes r) (row_of leads shapes q)
  rows_same P leads shapes f (Ok x) q h = record { same = λ e. ap (row_of leads shapes) h.same; leads = f x h.known }
  rows_same P leads shapes f (Err causes) q h = record { same = λ e. ap (row_of leads shapes) h.same; leads = tt }

  ones : (k : List ℕ) (shapes : Site → List (Shape Site)) (d : Data) → IsKnown d → Same (one_schema one k shapes d) (one_schema other k shapes d)
  ones k shapes d h = rows_same KnownSite (λ x. x ∷ []) shapes (λ x a. (a, tt)) (subschema one (at k) d) (subschema other (at k) d) (subschemas (at k) d h)

  lists : (k word : List ℕ) (shape : List Site → Shape Site) (d : Data) → IsKnown d → Same (schema_list one k word shape d) (schema_list other k word shape d)
  lists k word shape (array ds) h =
      rows_same (AllByRecursion KnownSite) (λ ss. ss) (λ ss. shape ss ∷ []) (λ ss a. a) (each_subschema one k 0 ds) (each_subschema other k 0 ds) (in_items k 0 ds h)
  lists k word shape d h = none_led _ []

  maps : (k : List ℕ) (shape : List (List ℕ × Site) → Shape Site) (d : Data) → IsKnown d → Same (schema_map one k shape d) (schema_map other k shape d)
  maps k shape (object ns) h =
      rows_same (AllByRecursion KnownNamed) sites_named (λ ps. shape ps ∷ []) (of_named KnownSite) (each_named one k ns) (each_named other k ns) (in_members k ns h.1)
  maps k shape d h = none_led _ []

  -- ---- assertions

  assertions : {A : Type 0} (k word : List ℕ) (shapes : A → List (Shape Site)) (o : Option A) → Same (asserted one k word shapes o) (asserted other k word shapes o)
  assertions k word shapes None = none_led _ []
  assertions k word shapes (Some x) = none_led [] (shapes x)

  strict_limits : (k : List ℕ) (a : ℤ → Assertion) (d : Data) → Same (strict_limit one k a d) (strict_limit other k a d)
  strict_limits k a d = either (is_draft_4 s.dialect.draft) _ _ _ _ (none_led [] []) (assertions k (codes "number") (λ z. assertion (a z)) (whole_number d))

  patterns : (k : List ℕ) (o : Option (List ℕ)) → Same (pattern_row one k o) (pattern_row other k o)
  patterns k None = none_led _ []
  patterns k (Some p) = either (is_made one p) _ _ _ _ (none_led [] (assertion (pattern p))) (none_led _ [])

  uniques : (k : List ℕ) (o : Option Bool) → Same (unique_row one k o) (unique_row other k o)
  uniques k None = none_led _ []
  uniques k (Some b) = none_led [] _

  -- ---- items

  item_rows : (k : List ℕ) (d : Data) → IsKnown d → Same (items_row one k d) (items_row other k d)
  item_rows k d h =
      either (is_schema d) _ _ _ _ (ones k (λ x. items (length_of_list (beside one (codes "prefixItems"))) x ∷ []) d h)
      (either (takes_list s.dialect.draft) _ _ _ _ (lists k (codes "schema or list") item_list d h) (none_led _ []))

  behind_rows : (k : List ℕ) (d : Data) → IsKnown d → (o : Option Items) → Same (behind_items one k d o) (behind_items other k d o)
  behind_rows k d h None = none_led [] []
  behind_rows k d h (Some ds) = ones k (λ x. (if is_false d then no_additional_items (count_items ds) x else additional_items (count_items ds) x) ∷ []) d h

  contains_rows : (k : List ℕ) (d : Data) → IsKnown d → Same (contains_row one k d) (contains_row other k d)
  contains_rows k d h =
      ones k (λ x. contains x (option_and_then count_of (beside one (codes "minContains"))) (option_and_then count_of (beside one (codes "maxContains"))) ∷ []) d h

  bound_rows : (k : List ℕ) (d : Data) → Same (bound_row one k d) (bound_row other k d)
  bound_rows k d = either (is_some (beside one (codes "contains"))) _ _ _ _ (assertions k (codes "count") (λ n. []) (count_of d)) (none_led [] [])

  -- ---- members

  other_rows : (k : List ℕ) (d : Data) → IsKnown d → Same (additional_properties_row one k d) (additional_properties_row other k d)
  other_rows k (boolean true) h = none_led [] []
  other_rows k (boolean false) h = ones k (λ x. refuses_others one x ∷ []) (boolean false) h
  other_rows k (object ns) h = ones k (λ x. additional_properties (declared_beside one) x ∷ []) (object ns) h
  other_rows k d h = none_led _ []

  with_more : (bs : List BuildCause) (r q : Row) → Same r q → Same (with_causes bs r) (with_causes bs q)
  with_more [] r q h = h
  with_more (b ∷ bs) r q h = record { same = λ e. cc; leads = tt }

  pattern_rows : (k : List ℕ) (d : Data) → IsKnown d → Same (pattern_properties_row one k d) (pattern_properties_row other k d)
  pattern_rows k d h =
      with_more (patterns_wrong one k (names_of_object (Some d))) (schema_map one k pattern_properties d) (schema_map other k pattern_properties d)
      (maps k pattern_properties d h)

  name_rows : (k : List ℕ) (d : Data) → IsKnown d → Same (property_names_row one k d) (property_names_row other k d)
  name_rows k (boolean false) h = ones k (λ x. no_property_names x ∷ []) (boolean false) h
  name_rows k (object ns) h = ones k (λ x. property_names x ∷ []) (object ns) h
  name_rows k d h = none_led [] []

  -- ---- dependencies

  listed_names : (k n : List ℕ) (o : Option (List (List ℕ))) → entry_names other k n o ≡ entry_names one k n o
  listed_names k n None = refl
  listed_names k n (Some names) = refl

  required_one : (k n : List ℕ) (d : Data) → required_entry other k n d ≡ required_entry one k n d
  required_one k n (array ds) = ap (result_map (λ names. (n, names))) (listed_names k n (names_in ds))
  required_one k n d = refl

  required_all : (k : List ℕ) (ns : Members) → required_entries other k ns ≡ required_entries one k ns
  required_all k no_members = refl
  required_all k (member n d ns) = ap₂ (λ x xs. and_more x xs) (required_one k n d) (required_all k ns)

  required_rows : (k : List ℕ) (d : Data) → Same (dependent_required_row one k d) (dependent_required_row other k d)
  required_rows k (object ns) =
      rows_same Any (λ ps. []) (λ ps. assertion (dependent_required ps)) (λ ps a. tt) (required_entries one k ns) (required_entries other k ns)
      (record { same = required_all k ns; known = ok_always Any (required_entries one k ns) (λ ps. tt) })
  required_rows k d = none_led _ []

  abbrev Entry : Type 0
  Entry = List ℕ × Dependency Site

  abbrev KnownEntry : Entry → Type 0
  KnownEntry p = IsApplied KnownSite p.1

  schema_applied : (k l : List ℕ) (d : Data) → IsKnown d
      → SameResult KnownEntry (result_map (λ x. (l, applies x)) (subschema one (name l ∷ name k ∷ []) d)) (result_map (λ x. (l, applies x)) (subschema other (name l ∷ name k ∷ []) d))
  schema_applied k l d h =
      both_mapped KnownSite KnownEntry (λ x. (l, applies x)) (λ x g. g) (subschema one (name l ∷ name k ∷ []) d) (subschema other (name l ∷ name k ∷ []) d)
      (subschemas (name l ∷ name k ∷ []) d h)

  entry_one : (k l : List ℕ) (d : Data) → IsKnown d → SameResult KnownEntry (dependency_entry one k l d) (dependency_entry other k l d)
  entry_one k l (array ds) h = record {
    same = ap (result_map (λ names. (l, needs names))) (listed_names k l (names_in ds));
    known = ok_map Any KnownEntry (entry_names one k l (names_in ds)) (λ names. (l, needs names)) (ok_always Any (entry_names one k l (names_in ds)) (λ names. tt)) (λ names g. tt);
  }
  entry_one k l d h = schema_applied k l d h

  entry_all : (k : List ℕ) (ns : Members) → EachNamedAmong (IsToldAlike (meta old) (meta new)) ns
      → SameResult (AllByRecursion KnownEntry) (dependency_entries one k ns) (dependency_entries other k ns)
  entry_all k no_members h = record { same = refl; known = tt }
  entry_all k (member l d ns) h =
      both_more KnownEntry (dependency_entry one k l d) (dependency_entry other k l d) (dependency_entries one k ns) (dependency_entries other k ns)
      (entry_one k l d h.0) (entry_all k ns h.1)

  dependency_rows : (k : List ℕ) (d : Data) → IsKnown d → Same (dependencies_row one k d) (dependencies_row other k d)
  dependency_rows k (object ns) h =
      rows_same (AllByRecursion KnownEntry) sites_applied (λ ps. dependencies ps ∷ []) (of_applied KnownSite)
      (dependency_entries one k ns) (dependency_entries other k ns) (entry_all k ns h.1)
  dependency_rows k d h = none_led _ []

  -- ---- references

  led_rows : (bs : List BuildCause) (r : Reference) (x : Site) → KnownSite x
      → Same (with_causes bs (reads (x ∷ []) (reference r x ∷ []))) (with_causes bs (reads (x ∷ []) (reference r x ∷ [])))
  led_rows [] r x h = record { same = λ e. refl; leads = (h, tt) }
  led_rows (b ∷ bs) r x h = record { same = λ e. refl; leads = tt }

  led : (k : List ℕ) (r : Reference) (text : List ℕ) (answer answer' : Result Target LookupCause)
      → ((t : Target) → answer ≡ Ok t → SameTarget old more new alone answer' t) → Same (led_to one k r text answer) (led_to other k r text answer')
  led k r text (Err cause) answer' h = record { same = λ e. cc; leads = tt }
  led k r text (Ok t) answer' h =
      let there = h t refl in
      let here = led_rows (no_schema_there t) r (target_site s text t) (record { is = there.known; scope = refl }) in
      record { same = λ e. ap (led_to other k r text) there.same; leads = here.leads }

  static_rows : (k : List ℕ) (o : Option (List ℕ)) → Same (ref_row one k o) (ref_row other k o)
  static_rows k None = none_led _ []
  static_rows k (Some text) = led k static text (lookup old s.base text) (lookup new s.base text) (static_same old more new alone s.base text)

  dynamic_rows : (k : List ℕ) (o : Option (List ℕ)) → Same (dynamic_row one k o) (dynamic_row other k o)
  dynamic_rows k None = none_led _ []
  dynamic_rows k (Some text) =
      led k dynamic text (dynamic_lookup old s.base s.scope text) (dynamic_lookup new s.base s.scope text) (λ t e. dynamic_same old more new alone s.base s.scope text t frees e)

  recursive_rows : (k : List ℕ) (d : Data) → Same (recursive_row one k d) (recursive_row other k d)
  recursive_rows k d =
      either (is_hash (as_str d)) _ _ _ _
      (led k recursive (codes "#") (recursive_lookup old s.base s.scope) (recursive_lookup new s.base s.scope) (λ t e. recursive_same old more new alone s.base s.scope t frees e))
      (none_led _ [])

  -- ---- conditions

  found_known : (key : List ℕ) (b : Bool) → IfSome (if b then get_member key ms else None) IsKnown
  found_known key false = tt
  found_known key true = by (get_member key ms) refl
    where
      by : (o : Option Data) → get_member key ms ≡ o → IfSome o IsKnown
      by None is = tt
      by (Some d) is = member_named (IsToldAlike (meta old) (meta new)) key ms d is inside

  abbrev if_ok : Result Site (List BuildCause) → Option Site
  if_ok r = elim r [ Ok x ↦ Some x | Err e ↦ None ]

  beside_by : (key : List ℕ) (o : Option Data) → IfSome o IsKnown
      → option_and_then (λ d. elim (subschema other (at key) d) [ Ok x ↦ Some x | Err e ↦ None ]) o
      ≡ option_and_then (λ d. elim (subschema one (at key) d) [ Ok x ↦ Some x | Err e ↦ None ]) o
  beside_by key None h = refl
  beside_by key (Some d) h =
      ap if_ok (subschemas (at key) d h).same

  beside_same : (key : List ℕ) → schema_beside other key ≡ schema_beside one key
  beside_same key = beside_by key (beside one key) (found_known key (counts_here one key))

  same_condition : (k : List ℕ) (d : Data)
      → one_schema other k (λ x. condition x (schema_beside other (codes "then")) (schema_beside other (codes "else")) ∷ []) d
      ≡ one_schema other k (λ x. condition x (schema_beside one (codes "then")) (schema_beside one (codes "else")) ∷ []) d
  same_condition k d = ap₂ (λ t e. one_schema other k (λ x. condition x t e ∷ []) d) (beside_same (codes "then")) (beside_same (codes "else"))

  if_rows : (k : List ℕ) (d : Data) → IsKnown d → Same (if_row one k d) (if_row other k d)
  if_rows k d h =
      let same = ones k (λ x. condition x (schema_beside one (codes "then")) (schema_beside one (codes "else")) ∷ []) d h in
      either (is_some (beside one (codes "then")) || is_some (beside one (codes "else"))) _ _ _ _
      (record { same = λ c. same_condition k d ∙ same.same c; leads = same.leads }) (none_led [] [])

  consequent_rows : (k : List ℕ) (d : Data) → IsKnown d → Same (consequent_row one k d) (consequent_row other k d)
  consequent_rows k d h = either (is_some (beside one (codes "if"))) _ _ _ _ (ones k (λ x. []) d h) (none_led [] [])

  -- ---- the table

  abbrev ReadersAgree : List ℕ × Reader → Type 0
  ReadersAgree r = (k : List ℕ) (d : Data) → IsKnown d → Same (r.1 one k d) (r.1 other k d)

  each_reader : AllByRecursion ReadersAgree readers
  each_reader =
      (λ k d h. static_rows k (as_str d))
      & (λ k d h. dynamic_rows k (as_str d))
      & (λ k d h. recursive_rows k d)
      & (λ k d h. assertions k (codes "type name") _ (type_names d))
      & (λ k d h. assertions k (codes "list") _ (as_array d))
      & (λ k d h. none_led [] _)
      & (λ k d h. assertions k (codes "positive number") _ (positive_of d))
      & (λ k d h. assertions k (codes "number") _ (whole_number d))
      & (λ k d h. assertions k (codes "number") _ (whole_number d))
      & (λ k d h. strict_limits k _ d)
      & (λ k d h. strict_limits k _ d)
      & (λ k d h. assertions k (codes "count") _ (count_of d))
      & (λ k d h. assertions k (codes "count") _ (count_of d))
      & (λ k d h. patterns k (as_str d))
      & (λ k d h. assertions k (codes "count") _ (count_of d))
      & (λ k d h. assertions k (codes "count") _ (count_of d))
      & (λ k d h. uniques k (as_bool d))
      & (λ k d h. assertions k (codes "count") _ (count_of d))
      & (λ k d h. assertions k (codes "count") _ (count_of d))
      & (λ k d h. assertions k (codes "unique names") _ (unique_names d))
      & (λ k d h. required_rows k d)
      & item_rows
      & (λ k d h. lists k (codes "list") _ d h)
      & (λ k d h. behind_rows k d h (option_and_then as_array (beside one (codes "items"))))
      & contains_rows
      & (λ k d h. bound_rows k d)
      & (λ k d h. bound_rows k d)
      & (λ k d h. maps k _ d h)
      & pattern_rows
      & other_rows
      & name_rows
      & (λ k d h. maps k _ d h)
      & dependency_rows
      & (λ k d h. lists k (codes "list") _ d h)
      & (λ k d h. lists k (codes "list") _ d h)
      & (λ k d h. lists k (codes "list") _ d h)
      & (λ k d h. ones k _ d h)
      & if_rows
      & consequent_rows
      & consequent_rows
      & (λ k d h. none_led _ [])
      & (λ k d h. none_led _ [])
      & tt

  among : (rs : List (List ℕ × Reader)) → AllByRecursion ReadersAgree rs → (k : List ℕ) (d : Data) → IsKnown d → Same (read_among rs one k d) (read_among rs other k d)
  among [] g k d h = none_led [] []
  among (r ∷ rs) g k d h = either (bytes_eq r.0 k) _ _ _ _ (g.0 k d h) (among rs g.1 k d h)

  row_same : (k : List ℕ) (d : Data) → IsKnown d → Same (row_at one k d) (row_at other k d)
  row_same k d h = either (counts_here one k) _ _ _ _ (among readers each_reader k d h) (none_led [] [])

  pub all_same : (ns : Members) → EachNamedAmong (IsToldAlike (meta old) (meta new)) ns → AllZip Same (rows_of one ns) (rows_of other ns)
  all_same no_members h = tt
  all_same (member k d ns) h = (row_same k d h.0, all_same ns h.1)
