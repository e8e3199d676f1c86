-- What stands at two sites of one base, scope, dialect and schema path, in two lists of documents, beside the same neighbours, where nothing is wrong.
use Rattle.std.proofs.Common.{◌≡◌, ℕ, ℤ, suc, List, [], ◌∷◌, Bool, true, false, not, ◌&&◌, ◌||◌, bytes_eq, codes, Option, Some, None, Result, Ok, Err, is_some, option_and_then, refl, sym, ap, ap₂, subst}
use Rattle.std.specs.List.{AllByRecursion, AllZip}
use Rattle.std.specs.Prelude.{if◌then◌else◌}
use Rattle.serde_json.specs.Data.{Data, boolean, array, object, Items, no_items, item, Members, no_members, member}
use Rattle.serde_json.specs.Find.{get_member, as_str, as_array, as_bool}
use Rattle.json_values.specs.Parts.{Part, name, index}
use Rattle.json_values.specs.Texts.{count_items}
use Rattle.schema_definitions.specs.Words.{result_map}
use Rattle.schema_definitions.specs.Places.{is_schema}
use Rattle.schema_definitions.specs.Bearers.{Documents}
use Rattle.schema_definitions.specs.Lookup.{LookupCause, Target, lookup}
use Rattle.schema_definitions.specs.Scopes.{dynamic_lookup, recursive_lookup}
use Rattle.schema_meaning.specs.Questions.{Declared}
use Rattle.schema_meaning.specs.Keywords.{Assertion, maximum, minimum, maximum_of_draft_4, minimum_of_draft_4, items, contains, pattern, unique_items, constant, Reference, static, dynamic, recursive, Dependency, needs, applies, Shape, item_list, additional_items, no_additional_items, pattern_properties, additional_properties, no_additional_properties, no_properties, property_names, no_property_names, condition, dependent_required}
use Rattle.schema_definitions.specs.Sites.{Site, below, target_site}
use Rattle.schema_definitions.specs.Values.{type_names, whole_number, count_of, positive_of, names_in, if_none_twice, unique_names}
use Rattle.schema_definitions.specs.Rows.{BuildCause, Row, nothing_read, has_reference, limit, is_true, length_of_list, additional_items_row, contains_row, Context, refused, reads, counts_here, beside, at, subschema, expected, and_more, each_subschema, named_result, each_named, row_of, one_schema, schema_list, sites_named, schema_map, asserted, assertion, is_draft_4, strict_limit, is_made, pattern_row, unique_row, unless_empty, takes_list, items_row, is_false, behind_items, bound_row, declared_beside, is_alone, refuses_others, additional_properties_row, patterns_wrong, names_of_object, with_causes, pattern_properties_row, property_names_row, entry_names, required_entry, required_entries, dependent_required_row, dependency_entry, dependency_entries, sites_applied, dependencies_row, if_row, consequent_row, no_schema_there, led_to, ref_row, dynamic_row, is_hash, recursive_row, Reader, readers, read_among, row_at}
use Rattle.schema_drafts.specs.Counts.{counts}
use Rattle.linked_meanings.specs.Related.{RelatedBeside, RelatedIfAny, related_needs, related_applies, RelatedEntry, RelatedShape, related_asserts, related_items, related_item_list, related_prefix_items, related_additional_items, related_no_additional_items, related_contains, related_properties, related_pattern_properties, related_additional_properties, related_no_additional_properties, related_no_properties, related_property_names, related_no_property_names, related_dependent_schemas, related_dependencies, related_all_of, related_any_of, related_one_of, related_negation, related_condition, related_reference}
use Rattle.reading_laws.proofs.Elements.{◌&◌}
use Rattle.moved_documents.proofs.Near.{is_looked}

-- results that are right together; what is wrong may stand at other places
data Both {A : Type 0} (R : A → A → Type 0) : Result A (List BuildCause) → Result A (List BuildCause) → Type 0 where
  right : {x y : A} → R x y → Both R (Ok x) (Ok y)
  wrong : {e f : List BuildCause} → Both R (Err e) (Err f)

if_right : {A : Type 0} (R : A → A → Type 0) (b : Bool) (x y : A) (e f : List BuildCause) → R x y → Both R (if b then Ok x else Err e) (if b then Ok y else Err f)
if_right R true x y e f h = right h
if_right R false x y e f h = wrong

both_more : {A : Type 0} (R : A → A → Type 0) {x y : Result A (List BuildCause)} {xs ys : Result (List A) (List BuildCause)}
    → Both R x y → Both (AllZip R) xs ys → Both (AllZip R) (and_more x xs) (and_more y ys)
both_more R (right h) (right hs) = right (h, hs)
both_more R (right h) wrong = wrong
both_more R wrong (right hs) = wrong
both_more R wrong wrong = wrong

both_mapped : {A B : Type 0} (R : A → A → Type 0) (S : B → B → Type 0) (f g : A → B) → ((x y : A) → R x y → S (f x) (g y))
    → {r q : Result A (List BuildCause)} → Both R r q → Both S (result_map f r) (result_map g q)
both_mapped R S f g h (right {x = x} {y = y} k) = right (h x y k)
both_mapped R S f g h wrong = wrong

module _ (docs docs' : Documents) (makes : List ℕ → Bool) (s : Site) (document : List ℕ) (path : List Part) (contents : Data) where
  -- the other site
  abbrev pub elsewhere : Site
  elsewhere = record { document = document; path = path; contents = contents; base = s.base; scope = s.scope; dialect = s.dialect; schema_path = s.schema_path }

  -- what is known of the sites to which both lead
  pub record LeadAlike (like : Site → Site → Type 0) : Type 0 where
    pub below_alike : (added : List Part) (d : Data) → like (below docs s added d) (below docs' elsewhere added d)
    pub static_alike : (text : List ℕ) (x y : Target) → lookup docs s.base text ≡ Ok x → lookup docs' s.base text ≡ Ok y
        → like (target_site s text x) (target_site elsewhere text y)
    pub dynamic_alike : (text : List ℕ) (x y : Target) → dynamic_lookup docs s.base s.scope text ≡ Ok x → dynamic_lookup docs' s.base s.scope text ≡ Ok y
        → like (target_site s text x) (target_site elsewhere text y)
    pub recursive_alike : (text : List ℕ) (x y : Target) → recursive_lookup docs s.base s.scope ≡ Ok x → recursive_lookup docs' s.base s.scope ≡ Ok y
        → like (target_site s text x) (target_site elsewhere text y)

  module _ (like : Site → Site → Type 0) (led_alike : LeadAlike like) (ms ns : Members)
      (near : (j : List ℕ) → is_looked j ≡ true → bytes_eq j (codes "$defs") ≡ false → get_member j ns ≡ get_member j ms) where
    abbrev pub one : Context
    one = record { documents = docs; makes = makes; site = s; members = ms }

    abbrev pub other : Context
    other = record { documents = docs'; makes = makes; site = elsewhere; members = ns }

    pub same_reference : has_reference ms ≡ has_reference ns
    same_reference = ap is_some (sym (near (codes "$ref") refl refl))

    same_beside : (j : List ℕ) → is_looked j ≡ true → bytes_eq j (codes "$defs") ≡ false → beside one j ≡ beside other j
    same_beside j known apart = ap₂ (λ (b : Bool) (o : Option Data). if counts s.dialect b j then o else None) same_reference (sym (near j known apart))

    -- the same keyword over sites that are alike
    abbrev Same : Shape Site → Shape Site → Type 0
    Same k h = RelatedShape like k h

    abbrev AllSame : List (Shape Site) → List (Shape Site) → Type 0
    AllSame ks hs = AllZip Same ks hs

    abbrev pub Agree : Row → Row → Type 0
    Agree r q = r.causes ≡ [] → q.causes ≡ [] → AllSame r.shapes q.shapes

    abbrev Named : List ℕ × Site → List ℕ × Site → Type 0
    Named p q = RelatedBeside like p q

    none_led : (shapes : List (Shape Site)) → AllSame shapes shapes → Agree (reads [] shapes) (reads [] shapes)
    none_led shapes h e f = h

    none_read : (causes more : List BuildCause) → Agree (refused causes) (refused more)
    none_read causes more e f = tt

    either : (b : Bool) (r r' q q' : Row) → Agree r q → Agree r' q' → Agree (if b then r else r') (if b then q else q')
    either true r r' q q' h g = h
    either false r r' q q' h g = g

    -- ---- subschemas

    subschemas : (added : List Part) (d : Data) → Both like (subschema one added d) (subschema other added d)
    subschemas added d =
        if_right like (is_schema d) (below docs s added d) (below docs' elsewhere added d) (expected one added (codes "schema")) (expected other added (codes "schema"))
        (led_alike.below_alike added d)

    in_items : (k : List ℕ) (i : ℕ) (ds : Items) → Both (AllZip like) (each_subschema one k i ds) (each_subschema other k i ds)
    in_items k i no_items = right tt
    in_items k i (item d ds) = both_more like (subschemas (index i ∷ name k ∷ []) d) (in_items k (suc i) ds)

    one_named : (k l : List ℕ) (d : Data) → Both Named (named_result l (subschema one (name l ∷ name k ∷ []) d)) (named_result l (subschema other (name l ∷ name k ∷ []) d))
    one_named k l d = both_mapped like Named (λ x. (l, x)) (λ x. (l, x)) (λ x y h. (refl, h)) (subschemas (name l ∷ name k ∷ []) d)

    in_members : (k : List ℕ) (ns : Members) → Both (AllZip Named) (each_named one k ns) (each_named other k ns)
    in_members k no_members = right tt
    in_members k (member l d ns) = both_more Named (one_named k l d) (in_members k ns)

    rows_agree : {A : Type 0} (R : A → A → Type 0) (leads : A → List Site) (shapes more : A → List (Shape Site))
        → ((x y : A) → R x y → AllSame (shapes x) (more y))
        → {r q : Result A (List BuildCause)} → Both R r q → Agree (row_of leads shapes r) (row_of leads more q)
    rows_agree R leads shapes more g (right {x = x} {y = y} h) = λ e f. g x y h
    rows_agree R leads shapes more g wrong = λ e f. tt

    ones : (k : List ℕ) (shapes more : Site → List (Shape Site)) → ((x y : Site) → like x y → AllSame (shapes x) (more y)) → (d : Data)
        → Agree (one_schema one k shapes d) (one_schema other k more d)
    ones k shapes more f d = rows_agree like (λ x. x ∷ []) shapes more f (subschemas (at k) d)

    lists : (k word : List ℕ) (shape : List Site → Shape Site) → ((xs ys : List Site) → AllZip like xs ys → Same (shape xs) (shape ys)) → (d : Data)
        → Agree (schema_list one k word shape d) (schema_list other k word shape d)
    lists k word shape f (array ds) =
        rows_agree (AllZip like) (λ ss. ss) (λ ss. shape ss ∷ []) (λ ss. shape ss ∷ []) (λ xs ys h. (f xs ys h, tt)) (in_items k 0 ds)
    lists k word shape f d = none_read _ _

    maps : (k : List ℕ) (shape : List (List ℕ × Site) → Shape Site) → ((ps qs : List (List ℕ × Site)) → AllZip Named ps qs → Same (shape ps) (shape qs)) → (d : Data)
        → Agree (schema_map one k shape d) (schema_map other k shape d)
    maps k shape f (object ns) =
        rows_agree (AllZip Named) sites_named (λ ps. shape ps ∷ []) (λ ps. shape ps ∷ []) (λ ps qs h. (f ps qs h, tt)) (in_members k ns)
    maps k shape f d = none_read _ _

    -- ---- assertions

    judged : {A : Type 0} (k word : List ℕ) (shapes : A → List (Shape Site)) → ((x : A) → AllSame (shapes x) (shapes x)) → (o : Option A)
        → Agree (asserted one k word shapes o) (asserted other k word shapes o)
    judged k word shapes f None = none_read _ _
    judged k word shapes f (Some x) = none_led (shapes x) (f x)

    assertions : {A : Type 0} (k word : List ℕ) (a : A → Assertion) (o : Option A)
        → Agree (asserted one k word (λ x. assertion (a x)) o) (asserted other k word (λ x. assertion (a x)) o)
    assertions k word a o = judged k word (λ x. assertion (a x)) (λ x. (related_asserts, tt)) o

    limits : (k strict : List ℕ) → is_looked strict ≡ true → bytes_eq strict (codes "$defs") ≡ false → (a : ℤ → Assertion) (old : ℤ → Bool → Assertion) (d : Data)
        → Agree (limit one k strict a old d) (limit other k strict a old d)
    limits k strict known apart a old d =
        subst
        (λ (b : Option Data).
        Agree (limit one k strict a old d) (asserted other k (codes "number") (λ z. assertion (if is_draft_4 s.dialect.draft then old z (is_true b) else a z)) (whole_number d)))
        (same_beside strict known apart)
        (assertions k (codes "number") (λ z. if is_draft_4 s.dialect.draft then old z (is_true (beside one strict)) else a z) (whole_number d))

    strict_limits : (k : List ℕ) (a : ℤ → Assertion) (d : Data) → Agree (strict_limit one k a d) (strict_limit other k a d)
    strict_limits k a d = either (is_draft_4 s.dialect.draft) _ _ _ _ (none_read [] []) (assertions k (codes "number") a (whole_number d))

    patterns : (k : List ℕ) (o : Option (List ℕ)) → Agree (pattern_row one k o) (pattern_row other k o)
    patterns k None = none_read _ _
    patterns k (Some p) = either (is_made one p) _ _ _ _ (none_led (assertion (pattern p)) (related_asserts, tt)) (none_read _ _)

    uniques : (k : List ℕ) (o : Option Bool) → Agree (unique_row one k o) (unique_row other k o)
    uniques k None = none_read _ _
    uniques k (Some true) = none_led (assertion unique_items) (related_asserts, tt)
    uniques k (Some false) = none_read [] []

    unless_none : (ks : List (List ℕ)) → AllSame (unless_empty ks) (unless_empty ks)
    unless_none [] = tt
    unless_none (k ∷ ks) = (related_asserts, tt)

    -- ---- items

    item_rows : (k : List ℕ) (d : Data) → Agree (items_row one k d) (items_row other k d)
    item_rows k d =
        either (is_schema d) _ _ _ _
        (subst
        (λ (b : Option Data).
        Agree (one_schema one k (λ x. items (length_of_list (beside one (codes "prefixItems"))) x ∷ []) d) (one_schema other k (λ x. items (length_of_list b) x ∷ []) d))
        (same_beside (codes "prefixItems") refl refl)
        (ones k (λ x. items (length_of_list (beside one (codes "prefixItems"))) x ∷ []) (λ x. items (length_of_list (beside one (codes "prefixItems"))) x ∷ [])
        (λ x y h. (related_items h, tt)) d))
        (either (takes_list s.dialect.draft) _ _ _ _ (lists k (codes "schema or list") item_list (λ xs ys h. related_item_list h) d) (none_read _ _))

    left_over : (b : Bool) (n : ℕ) (x y : Site) → like x y
        → Same (if b then no_additional_items n x else additional_items n x) (if b then no_additional_items n y else additional_items n y)
    left_over true n x y h = related_no_additional_items h
    left_over false n x y h = related_additional_items h

    behind_rows : (k : List ℕ) (d : Data) (o : Option Items) → Agree (behind_items one k d o) (behind_items other k d o)
    behind_rows k d None = none_read [] []
    behind_rows k d (Some ds) = ones k _ _ (λ x y h. (left_over (is_false d) (count_items ds) x y h, tt)) d

    more_rows : (k : List ℕ) (d : Data) → Agree (additional_items_row one k d) (additional_items_row other k d)
    more_rows k d =
        subst (λ (b : Option Data). Agree (additional_items_row one k d) (behind_items other k d (option_and_then as_array b))) (same_beside (codes "items") refl refl)
        (behind_rows k d (option_and_then as_array (beside one (codes "items"))))

    abbrev contains_by : Context → List ℕ → Data → Option Data → Option Data → Row
    contains_by c k d least most = one_schema c k (λ x. contains x (option_and_then count_of least) (option_and_then count_of most) ∷ []) d

    contains_rows : (k : List ℕ) (d : Data) → Agree (contains_row one k d) (contains_row other k d)
    contains_rows k d =
        let least = beside one (codes "minContains") in
        let most = beside one (codes "maxContains") in
        let same : contains_by other k d least most ≡ contains_row other k d =
        ap₂ (contains_by other k d) (same_beside (codes "minContains") refl refl) (same_beside (codes "maxContains") refl refl) in
        subst (λ r. Agree (contains_row one k d) r) same
        (ones k (λ x. contains x (option_and_then count_of least) (option_and_then count_of most) ∷ []) (λ x. contains x (option_and_then count_of least) (option_and_then count_of most) ∷ [])
        (λ x y h. (related_contains h, tt)) d)

    bounds : (k : List ℕ) (d : Data)
        → Agree (bound_row one k d) (if is_some (beside one (codes "contains")) then asserted other k (codes "count") (λ n. []) (count_of d) else nothing_read)
    bounds k d = either (is_some (beside one (codes "contains"))) _ _ _ _ (judged k (codes "count") (λ n. []) (λ n. tt) (count_of d)) (none_read [] [])

    bound_rows : (k : List ℕ) (d : Data) → Agree (bound_row one k d) (bound_row other k d)
    bound_rows k d =
        subst (λ (b : Option Data). Agree (bound_row one k d) (if is_some b then asserted other k (codes "count") (λ n. []) (count_of d) else nothing_read))
        (same_beside (codes "contains") refl refl) (bounds k d)

    -- ---- members

    refused_others : (b : Bool) (declared : Declared) (x y : Site) → like x y
        → Same (if b then no_properties x else no_additional_properties declared x) (if b then no_properties y else no_additional_properties declared y)
    refused_others true declared x y h = related_no_properties h
    refused_others false declared x y h = related_no_additional_properties h

    same_declared : declared_beside one ≡ declared_beside other
    same_declared =
        ap₂ (λ (a b : Option Data). record { names = names_of_object a; patterns = names_of_object b })
        (same_beside (codes "properties") refl refl) (same_beside (codes "patternProperties") refl refl)

    same_alone : is_alone one ≡ is_alone other
    same_alone =
        ap₂ (λ (a b : Option Data). not (is_some a) && not (is_some b)) (same_beside (codes "properties") refl refl) (same_beside (codes "patternProperties") refl refl)

    abbrev refuses_by : Bool → Declared → Site → Shape Site
    refuses_by alone declared x = if alone then no_properties x else no_additional_properties declared x

    refuses_same : (x y : Site) → like x y → Same (refuses_others one x) (refuses_others other y)
    refuses_same x y h =
        subst (λ k. Same (refuses_others one x) k) (ap₂ (λ (b : Bool) (e : Declared). refuses_by b e y) same_alone same_declared)
        (refused_others (is_alone one) (declared_beside one) x y h)

    adds_same : (x y : Site) → like x y → Same (additional_properties (declared_beside one) x) (additional_properties (declared_beside other) y)
    adds_same x y h =
        subst (λ (e : Declared). Same (additional_properties (declared_beside one) x) (additional_properties e y)) same_declared (related_additional_properties h)

    other_rows : (k : List ℕ) (d : Data) → Agree (additional_properties_row one k d) (additional_properties_row other k d)
    other_rows k (boolean true) = none_read [] []
    other_rows k (boolean false) = ones k (λ x. refuses_others one x ∷ []) (λ x. refuses_others other x ∷ []) (λ x y h. (refuses_same x y h, tt)) (boolean false)
    other_rows k (object os) =
        ones k (λ x. additional_properties (declared_beside one) x ∷ []) (λ x. additional_properties (declared_beside other) x ∷ []) (λ x y h. (adds_same x y h, tt)) (object os)
    other_rows k d = none_read _ _

    with_more : (bs cs : List BuildCause) (r q : Row) → Agree r q → Agree (with_causes bs r) (with_causes cs q)
    with_more [] [] r q h = h
    with_more (b ∷ bs) cs r q h = λ e f. absurd (cc)
    with_more [] (c ∷ cs) r q h = λ e f. absurd (cc)

    pattern_rows : (k : List ℕ) (d : Data) → Agree (pattern_properties_row one k d) (pattern_properties_row other k d)
    pattern_rows k d =
        with_more (patterns_wrong one k (names_of_object (Some d))) (patterns_wrong other k (names_of_object (Some d))) _ _
        (maps k pattern_properties (λ ps qs h. related_pattern_properties h) d)

    name_rows : (k : List ℕ) (d : Data) → Agree (property_names_row one k d) (property_names_row other k d)
    name_rows k (boolean false) = ones k (λ x. no_property_names x ∷ []) (λ x. no_property_names x ∷ []) (λ x y h. (related_no_property_names h, tt)) (boolean false)
    name_rows k (object ns) = ones k (λ x. property_names x ∷ []) (λ x. property_names x ∷ []) (λ x y h. (related_property_names h, tt)) (object ns)
    name_rows k d = none_read [] []

    -- ---- dependencies

    abbrev Equal : {A : Type 0} → A → A → Type 0
    Equal x y = x ≡ y

    if_once : (k n : List ℕ) (o : Option (List (List ℕ))) (e f : List BuildCause)
        → Both Equal (elim o [ None ↦ Err e | Some ks ↦ Ok ks ]) (elim o [ None ↦ Err f | Some ks ↦ Ok ks ])
    if_once k n None e f = wrong
    if_once k n (Some ks) e f = right refl

    listed_names : (k n : List ℕ) (o : Option (List (List ℕ))) → Both Equal (entry_names one k n o) (entry_names other k n o)
    listed_names k n None = wrong
    listed_names k n (Some names) = if_once k n (if_none_twice names) _ _

    required_one : (k n : List ℕ) (d : Data) → Both Equal (required_entry one k n d) (required_entry other k n d)
    required_one k n (array ds) = both_mapped Equal Equal (λ names. (n, names)) (λ names. (n, names)) (λ x y h. ap₂ (λ a b. (a, b)) refl h) (listed_names k n (names_in ds))
    required_one k n d = wrong

    required_all : (k : List ℕ) (ns : Members) → Both (AllZip Equal) (required_entries one k ns) (required_entries other k ns)
    required_all k no_members = right tt
    required_all k (member n d ns) = both_more Equal (required_one k n d) (required_all k ns)

    zip_same : {A : Type 0} (xs ys : List A) → AllZip Equal xs ys → xs ≡ ys
    zip_same [] [] z = refl
    zip_same [] (y ∷ ys) z = absurd z
    zip_same (x ∷ xs) [] z = absurd z
    zip_same (x ∷ xs) (y ∷ ys) z = ap₂ (λ a more. a ∷ more) z.0 (zip_same xs ys z.1)

    required_rows : (k : List ℕ) (d : Data) → Agree (dependent_required_row one k d) (dependent_required_row other k d)
    required_rows k (object ns) =
        rows_agree (AllZip Equal) (λ ps. []) (λ ps. assertion (dependent_required ps)) (λ ps. assertion (dependent_required ps))
        (λ ps qs h. subst (λ x. AllSame (assertion (dependent_required ps)) (assertion (dependent_required x))) (zip_same ps qs h) (related_asserts, tt)) (required_all k ns)
    required_rows k d = none_read _ _

    abbrev Entry : Type 0
    Entry = List ℕ × Dependency Site

    abbrev Applied : Entry → Entry → Type 0
    Applied p q = RelatedEntry like p q

    schema_applied : (k l : List ℕ) (d : Data)
        → Both Applied (result_map (λ x. (l, applies x)) (subschema one (name l ∷ name k ∷ []) d)) (result_map (λ x. (l, applies x)) (subschema other (name l ∷ name k ∷ []) d))
    schema_applied k l d = both_mapped like Applied (λ x. (l, applies x)) (λ x. (l, applies x)) (λ x y h. (refl, related_applies h)) (subschemas (name l ∷ name k ∷ []) d)

    needed : (l : List ℕ) (x y : List (List ℕ)) → x ≡ y → Applied (l, needs x) (l, needs y)
    needed l x y e = subst (λ z. Applied (l, needs x) (l, needs z)) e (refl, related_needs)

    entry_one : (k l : List ℕ) (d : Data) → Both Applied (dependency_entry one k l d) (dependency_entry other k l d)
    entry_one k l (array ds) = both_mapped Equal Applied (λ names. (l, needs names)) (λ names. (l, needs names)) (needed l) (listed_names k l (names_in ds))
    entry_one k l d = schema_applied k l d

    entry_all : (k : List ℕ) (ns : Members) → Both (AllZip Applied) (dependency_entries one k ns) (dependency_entries other k ns)
    entry_all k no_members = right tt
    entry_all k (member l d ns) = both_more Applied (entry_one k l d) (entry_all k ns)

    dependency_rows : (k : List ℕ) (d : Data) → Agree (dependencies_row one k d) (dependencies_row other k d)
    dependency_rows k (object ns) = rows_agree (AllZip Applied) sites_applied _ _ (λ ps qs h. (related_dependencies h, tt)) (entry_all k ns)
    dependency_rows k d = none_read _ _

    -- ---- conditions

    abbrev right_site : Result Site (List BuildCause) → Option Site
    right_site r = elim r [ Ok x ↦ Some x | Err e ↦ None ]

    both_right_sites : {r q : Result Site (List BuildCause)} → Both like r q → RelatedIfAny like (right_site r) (right_site q)
    both_right_sites (right h) = h
    both_right_sites wrong = tt

    beside_alike : (k : List ℕ) (o : Option Data)
        → RelatedIfAny like (option_and_then (λ d. right_site (subschema one (at k) d)) o) (option_and_then (λ d. right_site (subschema other (at k) d)) o)
    beside_alike k None = tt
    beside_alike k (Some d) = both_right_sites (subschemas (at k) d)

    abbrev site_beside : Context → List ℕ → Option Data → Option Site
    site_beside c k o = option_and_then (λ d. right_site (subschema c (at k) d)) o

    abbrev if_by : Context → List ℕ → Data → Option Data → Option Data → Row
    if_by c k d t e =
        if is_some t || is_some e then one_schema c k (λ x. condition x (site_beside c (codes "then") t) (site_beside c (codes "else") e) ∷ []) d else nothing_read

    conditions : (t e : Option Data) (x y : Site) → like x y
        → Same (condition x (site_beside one (codes "then") t) (site_beside one (codes "else") e)) (condition y (site_beside other (codes "then") t) (site_beside other (codes "else") e))
    conditions t e x y h = related_condition h (beside_alike (codes "then") t) (beside_alike (codes "else") e)

    conditional : (k : List ℕ) (d : Data) (t e : Option Data) → Agree (if_by one k d t e) (if_by other k d t e)
    conditional k d t e = either (is_some t || is_some e) _ _ _ _ (ones k _ _ (λ x y h. (conditions t e x y h, tt)) d) (none_read [] [])

    if_rows : (k : List ℕ) (d : Data) → Agree (if_row one k d) (if_row other k d)
    if_rows k d =
        let t = beside one (codes "then") in
        let e = beside one (codes "else") in
        let same : if_by other k d t e ≡ if_row other k d = ap₂ (if_by other k d) (same_beside (codes "then") refl refl) (same_beside (codes "else") refl refl) in
        subst (λ r. Agree (if_row one k d) r) same (conditional k d t e)

    abbrev consequent_by : Context → List ℕ → Data → Option Data → Row
    consequent_by c k d o = if is_some o then one_schema c k (λ x. []) d else nothing_read

    consequents : (k : List ℕ) (d : Data) (o : Option Data) → Agree (consequent_by one k d o) (consequent_by other k d o)
    consequents k d o = either (is_some o) _ _ _ _ (ones k _ _ (λ x y h. tt) d) (none_read [] [])

    consequent_rows : (k : List ℕ) (d : Data) → Agree (consequent_row one k d) (consequent_row other k d)
    consequent_rows k d =
        subst (λ (b : Option Data). Agree (consequent_row one k d) (consequent_by other k d b)) (same_beside (codes "if") refl refl) (consequents k d (beside one (codes "if")))

    -- ---- references

    led : (k : List ℕ) (r : Reference) (text : List ℕ) (answer answer' : Result Target LookupCause)
        → ((x y : Target) → answer ≡ Ok x → answer' ≡ Ok y → like (target_site s text x) (target_site elsewhere text y))
        → Agree (led_to one k r text answer) (led_to other k r text answer')
    led k r text (Err cause) answer' h = λ e f. absurd (cc)
    led k r text (Ok x) (Err cause) h = λ e f. absurd (cc)
    led k r text (Ok x) (Ok y) h = with_more (no_schema_there x) (no_schema_there y) _ _ (λ e f. (related_reference (h x y refl refl), tt))

    static_rows : (k : List ℕ) (o : Option (List ℕ)) → Agree (ref_row one k o) (ref_row other k o)
    static_rows k None = none_read _ _
    static_rows k (Some text) = led k static text (lookup docs s.base text) (lookup docs' s.base text) (led_alike.static_alike text)

    dynamic_rows : (k : List ℕ) (o : Option (List ℕ)) → Agree (dynamic_row one k o) (dynamic_row other k o)
    dynamic_rows k None = none_read _ _
    dynamic_rows k (Some text) = led k dynamic text (dynamic_lookup docs s.base s.scope text) (dynamic_lookup docs' s.base s.scope text) (led_alike.dynamic_alike text)

    recursive_rows : (k : List ℕ) (d : Data) → Agree (recursive_row one k d) (recursive_row other k d)
    recursive_rows k d =
        either (is_hash (as_str d)) _ _ _ _
        (led k recursive (codes "#") (recursive_lookup docs s.base s.scope) (recursive_lookup docs' s.base s.scope) (led_alike.recursive_alike (codes "#"))) (none_read _ _)

    -- ---- the table

    abbrev ReadersAgree : List ℕ × Reader → Type 0
    ReadersAgree r = (k : List ℕ) (d : Data) → Agree (r.1 one k d) (r.1 other k d)

    each_reader : AllByRecursion ReadersAgree readers
    each_reader =
        (λ k d. static_rows k (as_str d))
        & (λ k d. dynamic_rows k (as_str d))
        & recursive_rows
        & (λ k d. assertions k (codes "type name") _ (type_names d))
        & (λ k d. assertions k (codes "list") _ (as_array d))
        & (λ k d. none_led (assertion (constant d)) (related_asserts, tt))
        & (λ k d. assertions k (codes "positive number") _ (positive_of d))
        & (λ k d. limits k (codes "exclusiveMaximum") refl refl maximum maximum_of_draft_4 d)
        & (λ k d. limits k (codes "exclusiveMinimum") refl refl minimum minimum_of_draft_4 d)
        & (λ k d. strict_limits k _ d)
        & (λ k d. strict_limits k _ d)
        & (λ k d. assertions k (codes "count") _ (count_of d))
        & (λ k d. assertions k (codes "count") _ (count_of d))
        & (λ k d. patterns k (as_str d))
        & (λ k d. assertions k (codes "count") _ (count_of d))
        & (λ k d. assertions k (codes "count") _ (count_of d))
        & (λ k d. uniques k (as_bool d))
        & (λ k d. assertions k (codes "count") _ (count_of d))
        & (λ k d. assertions k (codes "count") _ (count_of d))
        & (λ k d. judged k (codes "unique names") unless_empty unless_none (unique_names d))
        & required_rows
        & item_rows
        & (λ k d. lists k (codes "list") _ (λ xs ys h. related_prefix_items h) d)
        & more_rows
        & contains_rows
        & bound_rows
        & bound_rows
        & (λ k d. maps k _ (λ ps qs h. related_properties h) d)
        & pattern_rows
        & other_rows
        & name_rows
        & (λ k d. maps k _ (λ ps qs h. related_dependent_schemas h) d)
        & dependency_rows
        & (λ k d. lists k (codes "list") _ (λ xs ys h. related_all_of h) d)
        & (λ k d. lists k (codes "list") _ (λ xs ys h. related_any_of h) d)
        & (λ k d. lists k (codes "list") _ (λ xs ys h. related_one_of h) d)
        & (λ k d. ones k _ _ (λ x y h. (related_negation h, tt)) d)
        & if_rows
        & consequent_rows
        & consequent_rows
        & (λ k d. none_read _ _)
        & (λ k d. none_read _ _)
        & tt

    among : (rs : List (List ℕ × Reader)) → AllByRecursion ReadersAgree rs → (k : List ℕ) (d : Data) → Agree (read_among rs one k d) (read_among rs other k d)
    among [] h k d = none_read [] []
    among (r ∷ rs) h k d = either (bytes_eq r.0 k) _ _ _ _ (h.0 k d) (among rs h.1 k d)

    counted : (b : Bool) (k : List ℕ) (d : Data)
        → Agree (if b then read_among readers one k d else nothing_read) (if b then read_among readers other k d else nothing_read)
    counted b k d = either b _ _ _ _ (among readers each_reader k d) (none_read [] [])

    pub row_alike : (k : List ℕ) (d : Data) → Agree (row_at one k d) (row_at other k d)
    row_alike k d =
        subst (λ (b : Bool). Agree (row_at one k d) (if counts s.dialect b k then read_among readers other k d else nothing_read)) same_reference
        (counted (counts_here one k) k d)
