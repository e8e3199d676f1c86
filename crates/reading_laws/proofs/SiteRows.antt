-- What stands at two sites that differ in their scopes and the parts of their schema paths alone, where the scopes answer alike and the paths have one text.
use Rattle.std.proofs.Common.{◌≡◌, ◌∙◌, ℕ, ℤ, suc, List, [], ◌∷◌, ◌++◌, Bool, true, false, ◌||◌, bytes_eq, codes, Option, Some, None, Result, Ok, Err, is_some, option_and_then, refl, sym, ap, subst}
use Rattle.std.proofs.lemmas.List.{map-append}
use Rattle.std.specs.List.{AllByRecursion, AllZip}
use Rattle.std.specs.Prelude.{if◌then◌else◌}
use Rattle.serde_json.specs.Data.{Data, boolean, array, object, Items, no_items, item, Members, no_members, member}
use Rattle.serde_json.specs.Find.{as_str, as_array, as_bool}
use Rattle.json_values.specs.Parts.{Part, name, index}
use Rattle.json_values.specs.Texts.{count_items}
use Rattle.schema_definitions.specs.Words.{result_map}
use Rattle.schema_definitions.specs.Places.{SchemaPlace, entered, is_schema}
use Rattle.schema_definitions.specs.Bearers.{Documents, meta}
use Rattle.schema_definitions.specs.Lookup.{LookupCause, Target, lookup}
use Rattle.schema_definitions.specs.Scopes.{dynamic_lookup, recursive_lookup}
use Rattle.schema_meaning.specs.Questions.{Declared}
use Rattle.schema_meaning.specs.Keywords.{Assertion, Reference, static, dynamic, recursive, Dependency, needs, applies, Shape, item_list, additional_items, no_additional_items, pattern_properties, additional_properties, no_additional_properties, no_properties, property_names, no_property_names, condition, dependent_required}
use Rattle.schema_definitions.specs.Sites.{Site, within, below, target_site}
use Rattle.schema_definitions.specs.Values.{type_names, whole_number, count_of, positive_of, names_in, unique_names}
use Rattle.schema_definitions.specs.Rows.{BuildCause, Row, Context, refused, reads, counts_here, beside, at, expected, subschema, each_subschema, named_result, each_named, row_of, one_schema, schema_list, sites_named, schema_map, asserted, assertion, is_draft_4, strict_limit, is_made, pattern_row, unique_row, unless_empty, takes_list, items_row, is_false, behind_items, bound_row, declared_beside, is_alone, refuses_others, additional_properties_row, patterns_wrong, names_of_object, with_causes, pattern_properties_row, property_names_row, entry_names, required_entries, dependent_required_row, dependency_entry, dependency_entries, sites_applied, dependencies_row, schema_beside, if_row, consequent_row, no_schema_there, led_to, ref_row, dynamic_row, is_hash, recursive_row, Reader, readers, read_among, row_at, rows_of, no_schema, rows_in}
use Rattle.document_laws.specs.ScopeLaws.{IsPresent, Alike}
use Rattle.linked_meanings.specs.Related.{RelatedBeside, RelatedIfAny, RelatedDependency, related_needs, related_applies, RelatedEntry, RelatedShape, related_never, related_asserts, related_items, related_item_list, related_prefix_items, related_additional_items, related_no_additional_items, related_contains, related_properties, related_pattern_properties, related_additional_properties, related_no_additional_properties, related_no_properties, related_property_names, related_no_property_names, related_dependent_schemas, related_dependencies, related_all_of, related_any_of, related_one_of, related_negation, related_condition, related_reference}
use Rattle.document_laws.proofs.Keys.{entered_is_present}
use Rattle.reading_laws.specs.SiteLaws.{AreAlike, RowsAgree}
use Rattle.reading_laws.specs.Spelled.{by_name, spelled}
use Rattle.reading_laws.proofs.Elements.{◌&◌}
use Rattle.reading_laws.proofs.Results.{Both, right, wrong, if_right, both_more, both_mapped, zip_mapped, zip_append}

module _ (docs : Documents) (makes : List ℕ → Bool) (s : Site) (scope : List (List ℕ)) (road : List Part)
    (present : IsPresent s.base s.scope) (present_too : IsPresent s.base scope) (scopes : Alike docs s.base s.scope scope) (roads : spelled s.schema_path ≡ spelled road) where
  -- the other site
  abbrev pub elsewhere : Site
  elsewhere = record { document = s.document; path = s.path; contents = s.contents; base = s.base; scope = scope; dialect = s.dialect; schema_path = road }

  -- ---- sites below, and of targets

  within_alike : (added : List Part) (p : SchemaPlace) → AreAlike docs (within s added p) (within elsewhere added p)
  within_alike added p = record {
    document = refl;
    path = refl;
    contents = refl;
    base = refl;
    dialect = refl;
    road = map-append by_name added s.schema_path ∙ ap (λ path. spelled added ++ path) roads ∙ sym (map-append by_name added road);
    scope = scopes.entered p.base;
    here = entered_is_present p.base s.base s.scope present;
    there = entered_is_present p.base s.base scope present_too;
  }

  below_alike : (added : List Part) (d : Data) → AreAlike docs (below docs s added d) (below docs elsewhere added d)
  below_alike added d = within_alike added (entered (meta docs) s.base s.dialect (added ++ s.path) d)

  target_alike : (text : List ℕ) (t : Target) → AreAlike docs (target_site s text t) (target_site elsewhere text t)
  target_alike text t = record {
    document = refl;
    path = refl;
    contents = refl;
    base = refl;
    dialect = refl;
    road = refl;
    scope = scopes.entered t.base;
    here = entered_is_present t.base s.base s.scope present;
    there = entered_is_present t.base s.base scope present_too;
  }

  module _ (ms : Members) where
    abbrev one : Context
    one = record { documents = docs; makes = makes; site = s; members = ms }

    abbrev other : Context
    other = record { documents = docs; makes = makes; site = elsewhere; members = ms }

    abbrev Agree : Row → Row → Type 0
    Agree r q = RowsAgree docs r q

    -- the same keyword over sites that are alike
    abbrev Same : Shape Site → Shape Site → Type 0
    Same k h = RelatedShape (AreAlike docs) k h

    abbrev AllSame : List (Shape Site) → List (Shape Site) → Type 0
    AllSame ks hs = AllZip Same ks hs

    abbrev Named : List ℕ × Site → List ℕ × Site → Type 0
    Named p q = RelatedBeside (AreAlike docs) p q

    none_led : (shapes : List (Shape Site)) → AllSame shapes shapes → Agree (reads [] shapes) (reads [] shapes)
    none_led shapes h = record { causes = refl; leads = tt; shapes = h }

    none_read : (causes : List BuildCause) → Agree (refused causes) (refused causes)
    none_read causes = record { causes = refl; leads = tt; shapes = tt }

    either : (b : Bool) (r r' q q' : Row) → Agree r q → Agree r' q' → Agree (if b then r else r') (if b then q else q')
    either true r r' q q' h g = h
    either false r r' q q' h g = g

    -- ---- subschemas

    subschemas : (added : List Part) (d : Data) → Both (AreAlike docs) (subschema one added d) (subschema other added d)
    subschemas added d =
        if_right (AreAlike docs) (is_schema d) (below docs s added d) (below docs elsewhere added d) (expected one added (codes "schema")) (below_alike added d)

    in_items : (k : List ℕ) (i : ℕ) (ds : Items) → Both (AllZip (AreAlike docs)) (each_subschema one k i ds) (each_subschema other k i ds)
    in_items k i no_items = right tt
    in_items k i (item d ds) = both_more (AreAlike docs) (subschemas (index i ∷ name k ∷ []) d) (in_items k (suc i) ds)

    one_named : (k l : List ℕ) (d : Data) → Both Named (named_result l (subschema one (name l ∷ name k ∷ []) d)) (named_result l (subschema other (name l ∷ name k ∷ []) d))
    one_named k l d = both_mapped (AreAlike docs) Named (λ x. (l, x)) (λ x. (l, x)) (λ x y h. (refl, h)) (subschemas (name l ∷ name k ∷ []) d)

    in_members : (k : List ℕ) (ns : Members) → Both (AllZip Named) (each_named one k ns) (each_named other k ns)
    in_members k no_members = right tt
    in_members k (member l d ns) = both_more Named (one_named k l d) (in_members k ns)

    rows_agree : {A : Type 0} (R : A → A → Type 0) (leads : A → List Site) (shapes more : A → List (Shape Site))
        → ((x y : A) → R x y → AllZip (AreAlike docs) (leads x) (leads y)) → ((x y : A) → R x y → AllSame (shapes x) (more y))
        → {r q : Result A (List BuildCause)} → Both R r q → Agree (row_of leads shapes r) (row_of leads more q)
    rows_agree R leads shapes more f g (right {x = x} {y = y} h) = record { causes = refl; leads = f x y h; shapes = g x y h }
    rows_agree R leads shapes more f g wrong = record { causes = refl; leads = tt; shapes = tt }

    ones : (k : List ℕ) (shapes more : Site → List (Shape Site)) → ((x y : Site) → AreAlike docs x y → AllSame (shapes x) (more y)) → (d : Data)
        → Agree (one_schema one k shapes d) (one_schema other k more d)
    ones k shapes more f d = rows_agree (AreAlike docs) (λ x. x ∷ []) shapes more (λ x y h. (h, tt)) f (subschemas (at k) d)

    lists : (k word : List ℕ) (shape : List Site → Shape Site) → ((xs ys : List Site) → AllZip (AreAlike docs) xs ys → Same (shape xs) (shape ys)) → (d : Data)
        → Agree (schema_list one k word shape d) (schema_list other k word shape d)
    lists k word shape f (array ds) =
        rows_agree (AllZip (AreAlike docs)) (λ ss. ss) (λ ss. shape ss ∷ []) (λ ss. shape ss ∷ []) (λ xs ys h. h) (λ xs ys h. (f xs ys h, tt)) (in_items k 0 ds)
    lists k word shape f d = none_read _

    maps : (k : List ℕ) (shape : List (List ℕ × Site) → Shape Site) → ((ps qs : List (List ℕ × Site)) → AllZip Named ps qs → Same (shape ps) (shape qs)) → (d : Data)
        → Agree (schema_map one k shape d) (schema_map other k shape d)
    maps k shape f (object ns) =
        rows_agree (AllZip Named) sites_named (λ ps. shape ps ∷ []) (λ ps. shape ps ∷ []) (λ ps qs h. zip_mapped Named (AreAlike docs) (λ p. p.1) (λ p q g. g.1) ps qs h)
        (λ ps qs h. (f ps qs h, tt)) (in_members k ns)
    maps k shape f d = none_read _

    -- ---- assertions

    judged : {A : Type 0} (k word : List ℕ) (shapes : A → List (Shape Site)) → ((x : A) → AllSame (shapes x) (shapes x)) → (o : Option A)
        → Agree (asserted one k word shapes o) (asserted other k word shapes o)
    judged k word shapes f None = none_read _
    judged k word shapes f (Some x) = none_led (shapes x) (f x)

    assertions : {A : Type 0} (k word : List ℕ) (a : A → Assertion) (o : Option A)
        → Agree (asserted one k word (λ x. assertion (a x)) o) (asserted other k word (λ x. assertion (a x)) o)
    assertions k word a o = judged k word (λ x. assertion (a x)) (λ x. (related_asserts, tt)) o

    strict_limits : (k : List ℕ) (a : ℤ → Assertion) (d : Data) → Agree (strict_limit one k a d) (strict_limit other k a d)
    strict_limits k a d = either (is_draft_4 s.dialect.draft) _ _ _ _ (none_read []) (assertions k (codes "number") a (whole_number d))

    patterns : (k : List ℕ) (o : Option (List ℕ)) → Agree (pattern_row one k o) (pattern_row other k o)
    patterns k None = none_read _
    patterns k (Some p) = either (is_made one p) _ _ _ _ (none_led _ (related_asserts, tt)) (none_read _)

    uniques : (k : List ℕ) (o : Option Bool) → Agree (unique_row one k o) (unique_row other k o)
    uniques k None = none_read _
    uniques k (Some true) = none_led _ (related_asserts, tt)
    uniques k (Some false) = none_read []

    unless_none : (ks : List (List ℕ)) → AllSame (unless_empty ks) (unless_empty ks)
    unless_none [] = tt
    unless_none (k ∷ ks) = (related_asserts, tt)

    -- ---- items

    item_rows : (k : List ℕ) (d : Data) → Agree (items_row one k d) (items_row other k d)
    item_rows k d =
        either (is_schema d) _ _ _ _ (ones k _ _ (λ x y h. (related_items h, tt)) d)
        (either (takes_list s.dialect.draft) _ _ _ _ (lists k (codes "schema or list") item_list (λ xs ys h. related_item_list h) d) (none_read _))

    left_over : (b : Bool) (n : ℕ) (x y : Site) → AreAlike docs x y
        → Same (if b then no_additional_items n x else additional_items n x) (if b then no_additional_items n y else additional_items n y)
    left_over true n x y h = related_no_additional_items h
    left_over false n x y h = related_additional_items h

    behind_rows : (k : List ℕ) (d : Data) (o : Option Items) → Agree (behind_items one k d o) (behind_items other k d o)
    behind_rows k d None = none_read []
    behind_rows k d (Some ds) = ones k _ _ (λ x y h. (left_over (is_false d) (count_items ds) x y h, tt)) d

    bound_rows : (k : List ℕ) (d : Data) → Agree (bound_row one k d) (bound_row other k d)
    bound_rows k d = either (is_some (beside one (codes "contains"))) _ _ _ _ (judged k (codes "count") (λ n. []) (λ n. tt) (count_of d)) (none_read [])

    -- ---- members

    refused_others : (b : Bool) (declared : Declared) (x y : Site) → AreAlike docs x y
        → Same (if b then no_properties x else no_additional_properties declared x) (if b then no_properties y else no_additional_properties declared y)
    refused_others true declared x y h = related_no_properties h
    refused_others false declared x y h = related_no_additional_properties h

    other_rows : (k : List ℕ) (d : Data) → Agree (additional_properties_row one k d) (additional_properties_row other k d)
    other_rows k (boolean true) = none_read []
    other_rows k (boolean false) =
        ones k (λ x. refuses_others one x ∷ []) (λ x. refuses_others other x ∷ [])
        (λ x y h. (refused_others (is_alone one) (declared_beside one) x y h, tt)) (boolean false)
    other_rows k (object ns) =
        ones k (λ x. additional_properties (declared_beside one) x ∷ []) (λ x. additional_properties (declared_beside other) x ∷ [])
        (λ x y h. (related_additional_properties h, tt)) (object ns)
    other_rows k d = none_read _

    with_more : (bs : List BuildCause) (r q : Row) → Agree r q → Agree (with_causes bs r) (with_causes bs q)
    with_more [] r q h = h
    with_more (b ∷ bs) r q h = record { causes = ap (λ (cs : List BuildCause). (b ∷ bs) ++ cs) h.causes; leads = tt; shapes = tt }

    pattern_rows : (k : List ℕ) (d : Data) → Agree (pattern_properties_row one k d) (pattern_properties_row other k d)
    pattern_rows k d = with_more (patterns_wrong one k (names_of_object (Some d))) _ _ (maps k pattern_properties (λ ps qs h. related_pattern_properties h) d)

    name_rows : (k : List ℕ) (d : Data) → Agree (property_names_row one k d) (property_names_row other k d)
    name_rows k (boolean false) = ones k (λ x. no_property_names x ∷ []) (λ x. no_property_names x ∷ []) (λ x y h. (related_no_property_names h, tt)) (boolean false)
    name_rows k (object ns) = ones k (λ x. property_names x ∷ []) (λ x. property_names x ∷ []) (λ x y h. (related_property_names h, tt)) (object ns)
    name_rows k d = none_read []

    -- ---- dependencies

    entry_rows : {A : Type 0} (shapes : A → List (Shape Site)) → ((x : A) → AllSame (shapes x) (shapes x)) → (r : Result A (List BuildCause))
        → Agree (row_of (λ x. []) shapes r) (row_of (λ x. []) shapes r)
    entry_rows shapes f (Ok x) = none_led (shapes x) (f x)
    entry_rows shapes f (Err causes) = none_read causes

    required_rows : (k : List ℕ) (d : Data) → Agree (dependent_required_row one k d) (dependent_required_row other k d)
    required_rows k (object ns) = entry_rows (λ ps. assertion (dependent_required ps)) (λ ps. (related_asserts, tt)) (required_entries one k ns)
    required_rows k d = none_read _

    abbrev Entry : Type 0
    Entry = List ℕ × Dependency Site

    abbrev Applied : Entry → Entry → Type 0
    Applied p q = RelatedEntry (AreAlike docs) p q

    needed : (l : List ℕ) (r : Result (List (List ℕ)) (List BuildCause))
        → Both Applied (result_map (λ names. (l, needs names)) r) (result_map (λ names. (l, needs names)) r)
    needed l (Ok names) = right (refl, related_needs)
    needed l (Err causes) = wrong

    schema_applied : (k l : List ℕ) (d : Data)
        → Both Applied (result_map (λ x. (l, applies x)) (subschema one (name l ∷ name k ∷ []) d)) (result_map (λ x. (l, applies x)) (subschema other (name l ∷ name k ∷ []) d))
    schema_applied k l d = both_mapped (AreAlike docs) Applied (λ x. (l, applies x)) (λ x. (l, applies x)) (λ x y h. (refl, related_applies h)) (subschemas (name l ∷ name k ∷ []) d)

    entry_one : (k l : List ℕ) (d : Data) → Both Applied (dependency_entry one k l d) (dependency_entry other k l d)
    entry_one k l (array ds) = needed l (entry_names one k l (names_in ds))
    entry_one k l d = schema_applied k l d

    entry_all : (k : List ℕ) (ns : Members) → Both (AllZip Applied) (dependency_entries one k ns) (dependency_entries other k ns)
    entry_all k no_members = right tt
    entry_all k (member l d ns) = both_more Applied (entry_one k l d) (entry_all k ns)

    -- the sites of one entry
    abbrev applied : Dependency Site → List Site
    applied x = elim x [ needs names ↦ [] | applies y ↦ y ∷ [] ]

    applied_one : (x y : Dependency Site) → RelatedDependency (AreAlike docs) x y → AllZip (AreAlike docs) (applied x) (applied y)
    applied_one x y related_needs = tt
    applied_one x y (related_applies h) = (h, tt)

    applied_alike : (ps qs : List Entry) → AllZip Applied ps qs → AllZip (AreAlike docs) (sites_applied ps) (sites_applied qs)
    applied_alike [] [] z = tt
    applied_alike [] (q ∷ qs) z = absurd z
    applied_alike (p ∷ ps) [] z = absurd z
    applied_alike (p ∷ ps) (q ∷ qs) z =
        zip_append (AreAlike docs) (applied p.1) (applied q.1) (sites_applied ps) (sites_applied qs) (applied_one p.1 q.1 z.0.1) (applied_alike ps qs z.1)

    dependency_rows : (k : List ℕ) (d : Data) → Agree (dependencies_row one k d) (dependencies_row other k d)
    dependency_rows k (object ns) = rows_agree (AllZip Applied) sites_applied _ _ applied_alike (λ ps qs h. (related_dependencies h, tt)) (entry_all k ns)
    dependency_rows k d = none_read _

    -- ---- conditions

    abbrev right_site : Result Site (List BuildCause) → Option Site
    right_site r = elim r [ Ok x ↦ Some x | Err e ↦ None ]

    both_right_sites : {r q : Result Site (List BuildCause)} → Both (AreAlike docs) r q → RelatedIfAny (AreAlike docs) (right_site r) (right_site q)
    both_right_sites (right h) = h
    both_right_sites wrong = tt

    beside_alike : (k : List ℕ) (o : Option Data)
        → RelatedIfAny (AreAlike docs) (option_and_then (λ d. right_site (subschema one (at k) d)) o) (option_and_then (λ d. right_site (subschema other (at k) d)) o)
    beside_alike k None = tt
    beside_alike k (Some d) = both_right_sites (subschemas (at k) d)

    conditions : (x y : Site) → AreAlike docs x y
        → Same (condition x (schema_beside one (codes "then")) (schema_beside one (codes "else")))
        (condition y (schema_beside other (codes "then")) (schema_beside other (codes "else")))
    conditions x y h =
        related_condition h (beside_alike (codes "then") (beside one (codes "then"))) (beside_alike (codes "else") (beside one (codes "else")))

    if_rows : (k : List ℕ) (d : Data) → Agree (if_row one k d) (if_row other k d)
    if_rows k d = either (is_some (beside one (codes "then")) || is_some (beside one (codes "else"))) _ _ _ _ (ones k _ _ (λ x y h. (conditions x y h, tt)) d) (none_read [])

    consequent_rows : (k : List ℕ) (d : Data) → Agree (consequent_row one k d) (consequent_row other k d)
    consequent_rows k d = either (is_some (beside one (codes "if"))) _ _ _ _ (ones k _ _ (λ x y h. tt) d) (none_read [])

    -- ---- references

    led : (k : List ℕ) (r : Reference) (text : List ℕ) (answer : Result Target LookupCause) → Agree (led_to one k r text answer) (led_to other k r text answer)
    led k r text (Err cause) = none_read _
    led k r text (Ok t) = with_more (no_schema_there t) _ _ (record { causes = refl; leads = (target_alike text t, tt); shapes = (related_reference (target_alike text t), tt) })

    led_alike : (k : List ℕ) (r : Reference) (text : List ℕ) (answer answer' : Result Target LookupCause) → answer ≡ answer' → Agree (led_to one k r text answer) (led_to other k r text answer')
    led_alike k r text answer answer' e = subst (λ x. Agree (led_to one k r text answer) (led_to other k r text x)) e (led k r text answer)

    static_rows : (k : List ℕ) (o : Option (List ℕ)) → Agree (ref_row one k o) (ref_row other k o)
    static_rows k None = none_read _
    static_rows k (Some text) = led k static text (lookup docs s.base text)

    dynamic_rows : (k : List ℕ) (o : Option (List ℕ)) → Agree (dynamic_row one k o) (dynamic_row other k o)
    dynamic_rows k None = none_read _
    dynamic_rows k (Some text) = led_alike k dynamic text (dynamic_lookup docs s.base s.scope text) (dynamic_lookup docs s.base scope text) (scopes.dynamic text)

    recursive_rows : (k : List ℕ) (d : Data) → Agree (recursive_row one k d) (recursive_row other k d)
    recursive_rows k d =
        either (is_hash (as_str d)) _ _ _ _
        (led_alike k recursive (codes "#") (recursive_lookup docs s.base s.scope) (recursive_lookup docs s.base scope) scopes.recursive) (none_read _)

    -- ---- the table

    abbrev ReadersAgree : List ℕ × Reader → Type 0
    ReadersAgree r = (k : List ℕ) (d : Data) → Agree (r.1 one k d) (r.1 other k d)

    each_reader : AllByRecursion ReadersAgree readers
    each_reader =
        (λ k d. static_rows k (as_str d))
        & (λ k d. dynamic_rows k (as_str d))
        & recursive_rows
        & (λ k d. assertions k (codes "type name") _ (type_names d))
        & (λ k d. assertions k (codes "list") _ (as_array d))
        & (λ k d. none_led _ (related_asserts, tt))
        & (λ k d. assertions k (codes "positive number") _ (positive_of d))
        & (λ k d. assertions k (codes "number") _ (whole_number d))
        & (λ k d. assertions k (codes "number") _ (whole_number d))
        & (λ k d. strict_limits k _ d)
        & (λ k d. strict_limits k _ d)
        & (λ k d. assertions k (codes "count") _ (count_of d))
        & (λ k d. assertions k (codes "count") _ (count_of d))
        & (λ k d. patterns k (as_str d))
        & (λ k d. assertions k (codes "count") _ (count_of d))
        & (λ k d. assertions k (codes "count") _ (count_of d))
        & (λ k d. uniques k (as_bool d))
        & (λ k d. assertions k (codes "count") _ (count_of d))
        & (λ k d. assertions k (codes "count") _ (count_of d))
        & (λ k d. judged k (codes "unique names") unless_empty unless_none (unique_names d))
        & required_rows
        & item_rows
        & (λ k d. lists k (codes "list") _ (λ xs ys h. related_prefix_items h) d)
        & (λ k d. behind_rows k d (option_and_then as_array (beside one (codes "items"))))
        & (λ k d. ones k _ _ (λ x y h. (related_contains h, tt)) d)
        & bound_rows
        & bound_rows
        & (λ k d. maps k _ (λ ps qs h. related_properties h) d)
        & pattern_rows
        & other_rows
        & name_rows
        & (λ k d. maps k _ (λ ps qs h. related_dependent_schemas h) d)
        & dependency_rows
        & (λ k d. lists k (codes "list") _ (λ xs ys h. related_all_of h) d)
        & (λ k d. lists k (codes "list") _ (λ xs ys h. related_any_of h) d)
        & (λ k d. lists k (codes "list") _ (λ xs ys h. related_one_of h) d)
        & (λ k d. ones k _ _ (λ x y h. (related_negation h, tt)) d)
        & if_rows
        & consequent_rows
        & consequent_rows
        & (λ k d. none_read _)
        & (λ k d. none_read _)
        & tt

    among : (rs : List (List ℕ × Reader)) → AllByRecursion ReadersAgree rs → (k : List ℕ) (d : Data) → Agree (read_among rs one k d) (read_among rs other k d)
    among [] h k d = none_read []
    among (r ∷ rs) h k d = either (bytes_eq r.0 k) _ _ _ _ (h.0 k d) (among rs h.1 k d)

    row_alike : (k : List ℕ) (d : Data) → Agree (row_at one k d) (row_at other k d)
    row_alike k d = either (counts_here one k) _ _ _ _ (among readers each_reader k d) (none_read [])

    rows_alike : (ns : Members) → AllZip (RowsAgree docs) (rows_of one ns) (rows_of other ns)
    rows_alike no_members = tt
    rows_alike (member k d ns) = (row_alike k d, rows_alike ns)

  -- ---- all that stands there

  abbrev pub first_context : Members → Context
  first_context ms = record { documents = docs; makes = makes; site = s; members = ms }

  abbrev pub second_context : Members → Context
  second_context ms = record { documents = docs; makes = makes; site = elsewhere; members = ms }

  nowhere : AllZip (RowsAgree docs) (no_schema s) (no_schema elsewhere)
  nowhere = (record { causes = refl; leads = tt; shapes = tt }, tt)

  pub rows_in_alike : (d : Data) → AllZip (RowsAgree docs) (rows_in s first_context d) (rows_in elsewhere second_context d)
  rows_in_alike (boolean true) = tt
  rows_in_alike (boolean false) = (record { causes = refl; leads = tt; shapes = (related_never, tt) }, tt)
  rows_in_alike (object ms) = rows_alike ms ms
  rows_in_alike d = nowhere
