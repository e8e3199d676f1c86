-- What each keyword is read as: it has no causes or no leads, it leads to parts of its value and to targets of references, and its shapes
-- ask the sites that it leads to.
use Rattle.std.proofs.Common.{◌≡◌, ◌∙◌, ◌+◌, ◌⊎◌, inl, inr, ℕ, ℤ, suc, List, [], ◌∷◌, ◌++◌, Bool, true, false, ◌||◌, bytes_eq, codes, IfOk, IfSome, Option, Some, None, Result, Ok, Err, is_some, option_and_then, refl, sym, ap, subst, arith}
use Rattle.std.proofs.lemmas.Slice.Eq.{bytes_eq-Decides}
use Rattle.std.specs.List.{AllByRecursion}
use Rattle.std.specs.Prelude.{if◌then◌else◌, ⊤}
use Rattle.serde_json.specs.Data.{Data, boolean, array, object, Items, no_items, item, Members, no_members, member}
use Rattle.serde_json.specs.Find.{get_item, get_member, as_str, as_array, as_bool}
use Rattle.json_values.specs.Parts.{Part, name, index}
use Rattle.json_values.specs.Texts.{count_items}
use Rattle.schema_meaning.specs.Members.{In, first, later}
use Rattle.schema_meaning.specs.Keywords.{Assertion, Reference, static, dynamic, recursive, Dependency, needs, applies, Shape, no_additional_items, additional_items, no_properties, additional_properties, no_additional_properties, property_names, no_property_names, condition}
use Rattle.schema_definitions.specs.Places.{is_schema}
use Rattle.schema_definitions.specs.Lookup.{LookupCause, Target, lookup}
use Rattle.schema_definitions.specs.Scopes.{dynamic_lookup, recursive_lookup}
use Rattle.schema_definitions.specs.Sites.{Site, below, target_site}
use Rattle.schema_definitions.specs.Values.{type_names, whole_number, count_of, positive_of, names_in, unique_names}
use Rattle.schema_definitions.specs.Rows.{BuildCause, Row, nothing_read, refused, reads, Context, counts_here, beside, at, expected, subschema, and_more, each_subschema, named_result, each_named, row_of, one_schema, schema_list, sites_named, schema_map, asserted, assertion, is_draft_4, strict_limit, is_made, pattern_row, unique_row, unless_empty, takes_list, items_row, is_false, behind_items, bound_row, declared_beside, is_alone, refuses_others, additional_properties_row, patterns_wrong, names_of_object, with_causes, pattern_properties_row, property_names_row, entry_names, required_entries, dependent_required_row, dependency_entry, dependency_entries, sites_applied, dependencies_row, schema_beside, if_row, consequent_row, no_schema_there, led_to, ref_row, dynamic_row, is_hash, recursive_row, Reader, readers, read_among, row_at, rows_of}
use Rattle.document_laws.specs.TargetLaws.{IsTarget, by_reference, by_scope, by_run}
use Rattle.document_laws.proofs.Results.{ok_map, ok_either, ok_always}
use Rattle.document_laws.proofs.Inside.{HoldsMember, here, behind, held_found}
use Rattle.reading_laws.proofs.Elements.{◌&◌, each_so}
use Rattle.reading_laws.proofs.Asked.{IsApplied, Holds}
use Rattle.reading_laws.proofs.Parts.{PartOf, itself, item_of, member_of, held_stands}

-- a site below, at a part of a keyword's value
pub data IsBelow (c : Context) (k : List ℕ) (d : Data) : Site → Type 0 where
  is_below : (added : List Part) (e : Data) → PartOf d (at k) added e → IsBelow c k d (below c.documents c.site added e)

-- the site of a reference's target
pub data IsLed (c : Context) : Site → Type 0 where
  is_led : (text : List ℕ) (t : Target) → IsTarget c.documents t → IsLed c (target_site c.site text t)

abbrev pub IsLead : Context → List ℕ → Data → Site → Type 0
IsLead c k d x = IsBelow c k d x ⊎ IsLed c x

-- ---- results

abbrev pub Any : {A : Type 0} → A → Type 0
Any x = ⊤

pub each_more : {A : Type 0} (P : A → Type 0) (x : Result A (List BuildCause)) (xs : Result (List A) (List BuildCause)) → IfOk x P → IfOk xs (AllByRecursion P)
    → IfOk (and_more x xs) (AllByRecursion P)
each_more P (Ok x) (Ok xs) h hs = (h, hs)
each_more P (Ok x) (Err more) h hs = tt
each_more P (Err wrong) (Ok xs) h hs = tt
each_more P (Err wrong) (Err more) h hs = tt

-- ---- sites in the values of keywords

module _ (P : Site → Type 0) where
  pub of_named : (ps : List (List ℕ × Site)) → AllByRecursion (λ p. P p.1) ps → AllByRecursion P (sites_named ps)
  of_named [] h = tt
  of_named (p ∷ ps) h = (h.0, of_named ps h.1)

  named_of : (ps : List (List ℕ × Site)) → AllByRecursion P (sites_named ps) → AllByRecursion (λ p. P p.1) ps
  named_of [] h = tt
  named_of (p ∷ ps) h = (h.0, named_of ps h.1)

  pub of_applied : (ps : List (List ℕ × Dependency Site)) → AllByRecursion (λ p. IsApplied P p.1) ps → AllByRecursion P (sites_applied ps)
  of_applied [] h = tt
  of_applied ((l, needs names) ∷ ps) h = of_applied ps h.1
  of_applied ((l, applies x) ∷ ps) h = (h.0, of_applied ps h.1)

  applied_of : (ps : List (List ℕ × Dependency Site)) → AllByRecursion P (sites_applied ps) → AllByRecursion (λ p. IsApplied P p.1) ps
  applied_of [] h = tt
  applied_of ((l, needs names) ∷ ps) h = (tt, applied_of ps h)
  applied_of ((l, applies x) ∷ ps) h = (h.0, applied_of ps h.1)

-- ---- subschemas

-- each of these is one of all the members
abbrev pub Among : Members → Members → Type 0
Among all ms = (k : List ℕ) (d : Data) → HoldsMember k d ms → HoldsMember k d all

module _ (c : Context) where
  part_below : (k : List ℕ) (d : Data) (added : List Part) (e : Data) → PartOf d (at k) added e → IfOk (subschema c added e) (IsBelow c k d)
  part_below k d added e p = ok_either (IsBelow c k d) (is_schema e) (Ok (below c.documents c.site added e)) (Err (expected c added (codes "schema"))) (is_below added e p) tt

  items_below : (k : List ℕ) (all : Items) (i : ℕ) (ds : Items) → ((n : ℕ) (e : Data) → get_item n ds ≡ Some e → get_item (n + i) all ≡ Some e)
      → IfOk (each_subschema c k i ds) (AllByRecursion (IsBelow c k (array all)))
  items_below k all i no_items f = tt
  items_below k all i (item d ds) f =
      each_more (IsBelow c k (array all)) (subschema c (index i ∷ name k ∷ []) d) (each_subschema c k (suc i) ds)
      (part_below k (array all) (index i ∷ name k ∷ []) d
      (let same : 0 + i ≡ i = omega arith in item_of i itself (subst (λ (m : ℕ). get_item m all ≡ Some d) same (f 0 d refl))))
      (items_below k all (suc i) ds (λ n e g. (let same : suc n + i ≡ n + suc i = omega arith in subst (λ (m : ℕ). get_item m all ≡ Some e) same (f (suc n) e g))))

  all_below : (k : List ℕ) (ds : Items) → IfOk (each_subschema c k 0 ds) (AllByRecursion (IsBelow c k (array ds)))
  all_below k ds = items_below k ds 0 ds (λ n e g. (let same : n ≡ n + 0 = omega arith in subst (λ (m : ℕ). get_item m ds ≡ Some e) same g))

  member_below : (k : List ℕ) (all : Members) (l : List ℕ) (d : Data) → HoldsMember l d all → IfOk (subschema c (name l ∷ name k ∷ []) d) (IsBelow c k (object all))
  member_below k all l d h = part_below k (object all) (name l ∷ name k ∷ []) d (member_of l itself h)

  members_below : (k : List ℕ) (all ms : Members) → Among all ms → IfOk (each_named c k ms) (AllByRecursion (λ p. IsBelow c k (object all) p.1))
  members_below k all no_members f = tt
  members_below k all (member l d ms) f =
      each_more (λ p. IsBelow c k (object all) p.1) (named_result l (subschema c (name l ∷ name k ∷ []) d)) (each_named c k ms)
      (ok_map (IsBelow c k (object all)) (λ p. IsBelow c k (object all) p.1) (subschema c (name l ∷ name k ∷ []) d) (λ s. (l, s)) (member_below k all l d (f l d here)) (λ s h. h))
      (members_below k all ms (λ n e g. f n e (behind g)))

  abbrev Entry : Type 0
  Entry = List ℕ × Dependency Site

  abbrev EntryBelow : List ℕ → Members → Entry → Type 0
  EntryBelow k all p = IsApplied (IsBelow c k (object all)) p.1

  entry_below : (k : List ℕ) (all : Members) (l : List ℕ) (d : Data) → HoldsMember l d all → IfOk (dependency_entry c k l d) (EntryBelow k all)
  entry_below k all l (array ds) h =
      ok_map Any (EntryBelow k all) (entry_names c k l (names_in ds)) (λ names. (l, needs names)) (ok_always Any (entry_names c k l (names_in ds)) (λ names. tt)) (λ names g. tt)
  entry_below k all l d h =
      ok_map (IsBelow c k (object all)) (EntryBelow k all) (subschema c (name l ∷ name k ∷ []) d) (λ s. (l, applies s)) (member_below k all l d h) (λ s g. g)

  entries_below : (k : List ℕ) (all ms : Members) → Among all ms → IfOk (dependency_entries c k ms) (AllByRecursion (EntryBelow k all))
  entries_below k all no_members f = tt
  entries_below k all (member l d ms) f =
      each_more (EntryBelow k all) (dependency_entry c k l d) (dependency_entries c k ms) (entry_below k all l d (f l d here))
      (entries_below k all ms (λ n e g. f n e (behind g)))

-- ---- rows, with facts P of sites below and R of targets

module _ (c : Context) (P R : Site → Type 0) where
  -- what is known of these sites, to which the keyword leads
  pub record AreKnown (k : List ℕ) (d : Data) (leads : List Site) : Type 0 where
    pub below : (x : Site) → In x leads → IsBelow c k d x → P x
    pub led : (x : Site) → In x leads → IsLed c x → R x

  abbrev Known : List (Shape Site) → Type 0
  Known shapes = AllByRecursion (Holds P R) shapes

  abbrev Stands : List ℕ → Type 0
  Stands k = is_some (get_member k c.members) ≡ true

  -- what a keyword is read as; its shapes are known where it stands in the schema
  pub record IsRead (k : List ℕ) (d : Data) (r : Row) : Type 0 where
    pub clear : (r.causes ≡ []) ⊎ (r.leads ≡ [])
    pub leads : AllByRecursion (IsLead c k d) r.leads
    pub shapes : Stands k → AreKnown k d r.leads → Known r.shapes

  either : {k : List ℕ} {d : Data} (b : Bool) (r q : Row) → IsRead k d r → IsRead k d q → IsRead k d (if b then r else q)
  either true r q h g = h
  either false r q h g = g

  none_led : {k : List ℕ} {d : Data} (causes : List BuildCause) (shapes : List (Shape Site)) → Known shapes → IsRead k d (record { causes = causes; leads = []; shapes = shapes })
  none_led causes shapes h = record { clear = inr refl; leads = tt; shapes = λ there g. h }

  wrong : {k : List ℕ} {d : Data} (causes : List BuildCause) → IsRead k d (refused causes)
  wrong causes = none_led causes [] tt

  nothing : {k : List ℕ} {d : Data} → IsRead k d nothing_read
  nothing = none_led [] [] tt

  with_more : {k : List ℕ} {d : Data} (bs : List BuildCause) (r : Row) → IsRead k d r → IsRead k d (with_causes bs r)
  with_more [] r h = h
  with_more (b ∷ bs) r h = wrong ((b ∷ bs) ++ r.causes)

  all_known : (k : List ℕ) (d : Data) (xs : List Site) → AllByRecursion (IsBelow c k d) xs → ((x : Site) → In x xs → IsBelow c k d x → P x) → AllByRecursion P xs
  all_known k d [] h g = tt
  all_known k d (x ∷ xs) h g = (g x first h.0, all_known k d xs h.1 (λ y i. g y (later i)))

  of_result : {A : Type 0} (k : List ℕ) (d : Data) (Q : A → Type 0) (leads : A → List Site) (shapes : A → List (Shape Site)) → ((x : A) → Q x → AllByRecursion (IsBelow c k d) (leads x))
      → (Stands k → (x : A) → AllByRecursion P (leads x) → Known (shapes x)) → (r : Result A (List BuildCause)) → IfOk r Q → IsRead k d (row_of leads shapes r)
  of_result k d Q leads shapes f g (Ok x) h = record {
    clear = inl refl;
    leads = each_so (IsBelow c k d) (IsLead c k d) (λ y b. inl b) (leads x) (f x h);
    shapes = λ there known. g there x (all_known k d (leads x) (f x h) known.below);
  }
  of_result k d Q leads shapes f g (Err causes) h = wrong causes

  ones : (k : List ℕ) (shapes : Site → List (Shape Site)) → (Stands k → (s : Site) → P s → Known (shapes s)) → (d : Data) → IsRead k d (one_schema c k shapes d)
  ones k shapes g d =
      of_result k d (IsBelow c k d) (λ s. s ∷ []) shapes (λ s h. (h, tt)) (λ there s h. g there s h.0) (subschema c (at k) d) (part_below c k d (at k) d itself)

  one : (k : List ℕ) (shape : Site → Shape Site) → ((s : Site) → P s → Holds P R (shape s)) → (d : Data) → IsRead k d (one_schema c k (λ s. shape s ∷ []) d)
  one k shape g d = ones k (λ s. shape s ∷ []) (λ there s h. (g s h, tt)) d

  lists : (k word : List ℕ) (shape : List Site → Shape Site) → ((ss : List Site) → AllByRecursion P ss → Holds P R (shape ss)) → (d : Data)
      → IsRead k d (schema_list c k word shape d)
  lists k word shape g (array ds) =
      of_result k (array ds) (AllByRecursion (IsBelow c k (array ds))) (λ ss. ss) (λ ss. shape ss ∷ []) (λ ss h. h) (λ there ss h. (g ss h, tt)) (each_subschema c k 0 ds) (all_below c k ds)
  lists k word shape g d = wrong _

  maps : (k : List ℕ) (shape : List (List ℕ × Site) → Shape Site) → ((ps : List (List ℕ × Site)) → AllByRecursion (λ p. P p.1) ps → Holds P R (shape ps)) → (d : Data)
      → IsRead k d (schema_map c k shape d)
  maps k shape g (object ms) =
      of_result k (object ms) (AllByRecursion (λ p. IsBelow c k (object ms) p.1)) sites_named (λ ps. shape ps ∷ []) (of_named (IsBelow c k (object ms)))
      (λ there ps h. (g ps (named_of P ps h), tt)) (each_named c k ms) (members_below c k ms ms (λ n e h. h))
  maps k shape g d = wrong _

  -- ---- assertions

  asserts_known : {A : Type 0} (k word : List ℕ) (shapes : A → List (Shape Site)) → ((x : A) → Known (shapes x)) → (d : Data) (o : Option A) → IsRead k d (asserted c k word shapes o)
  asserts_known k word shapes h d None = wrong _
  asserts_known k word shapes h d (Some x) = none_led [] (shapes x) (h x)

  asserting : {A : Type 0} (k word : List ℕ) (a : A → Assertion) (d : Data) (o : Option A) → IsRead k d (asserted c k word (λ x. assertion (a x)) o)
  asserting k word a d o = asserts_known k word (λ x. assertion (a x)) (λ x. (tt, tt)) d o

  strict_limits : (k : List ℕ) (a : ℤ → Assertion) (d : Data) → IsRead k d (strict_limit c k a d)
  strict_limits k a d = either (is_draft_4 c.site.dialect.draft) _ _ nothing (asserting k (codes "number") a d (whole_number d))

  patterns : (k : List ℕ) (d : Data) (o : Option (List ℕ)) → IsRead k d (pattern_row c k o)
  patterns k d None = wrong _
  patterns k d (Some p) = either (is_made c p) _ _ (none_led [] _ (tt, tt)) (wrong _)

  uniques : (k : List ℕ) (d : Data) (o : Option Bool) → IsRead k d (unique_row c k o)
  uniques k d None = wrong _
  uniques k d (Some true) = none_led [] _ (tt, tt)
  uniques k d (Some false) = nothing

  names_known : (ks : List (List ℕ)) → Known (unless_empty ks)
  names_known [] = tt
  names_known (k ∷ ks) = (tt, tt)

  required_rows : (k : List ℕ) (d : Data) → IsRead k d (dependent_required_row c k d)
  required_rows k (object ms) =
      of_result k (object ms) Any (λ ps. []) _ (λ ps h. tt) (λ there ps h. (tt, tt)) (required_entries c k ms) (ok_always Any (required_entries c k ms) (λ ps. tt))
  required_rows k d = wrong _

  -- ---- items

  item_rows : (k : List ℕ) (d : Data) → IsRead k d (items_row c k d)
  item_rows k d =
      either (is_schema d) _ _ (one k _ (λ s h. h) d) (either (takes_list c.site.dialect.draft) _ _ (lists k (codes "schema or list") _ (λ ss h. h) d) (wrong _))

  behind_known : (start : ℕ) (s : Site) → P s → (b : Bool) → Holds P R (if b then no_additional_items start s else additional_items start s)
  behind_known start s h true = h
  behind_known start s h false = h

  behind_rows : (k : List ℕ) (d : Data) (o : Option Items) → IsRead k d (behind_items c k d o)
  behind_rows k d None = nothing
  behind_rows k d (Some ds) = one k _ (λ s h. behind_known (count_items ds) s h (is_false d)) d

  bound_rows : (k : List ℕ) (d : Data) → IsRead k d (bound_row c k d)
  bound_rows k d = either (is_some (beside c (codes "contains"))) _ _ (asserts_known k (codes "count") (λ n. []) (λ n. tt) d (count_of d)) nothing

  -- ---- members

  others_known : (s : Site) → P s → (b : Bool) → Holds P R (if b then no_properties s else no_additional_properties (declared_beside c) s)
  others_known s h true = h
  others_known s h false = h

  other_rows : (k : List ℕ) (d : Data) → IsRead k d (additional_properties_row c k d)
  other_rows k (boolean true) = nothing
  other_rows k (boolean false) = one k (refuses_others c) (λ s h. others_known s h (is_alone c)) (boolean false)
  other_rows k (object ms) = one k (additional_properties (declared_beside c)) (λ s h. h) (object ms)
  other_rows k d = wrong _

  pattern_rows : (k : List ℕ) (d : Data) → IsRead k d (pattern_properties_row c k d)
  pattern_rows k d = with_more (patterns_wrong c k (names_of_object (Some d))) _ (maps k _ (λ ps h. h) d)

  name_rows : (k : List ℕ) (d : Data) → IsRead k d (property_names_row c k d)
  name_rows k (boolean false) = one k no_property_names (λ s h. h) (boolean false)
  name_rows k (object ms) = one k property_names (λ s h. h) (object ms)
  name_rows k d = nothing

  dependency_rows : (k : List ℕ) (d : Data) → IsRead k d (dependencies_row c k d)
  dependency_rows k (object ms) =
      of_result k (object ms) (AllByRecursion (EntryBelow c k ms)) sites_applied _ (of_applied (IsBelow c k (object ms))) (λ there ps h. (applied_of P ps h, tt))
      (dependency_entries c k ms) (entries_below c k ms ms (λ n e h. h))
  dependency_rows k d = wrong _

  -- ---- references

  led : (k : List ℕ) (d : Data) (r : Reference) (text : List ℕ) (answer : Result Target LookupCause) → ((t : Target) → answer ≡ Ok t → IsTarget c.documents t)
      → IsRead k d (led_to c k r text answer)
  led k d r text (Err cause) h = wrong _
  led k d r text (Ok t) h =
      let is = is_led text t (h t refl) in
      with_more (no_schema_there t) _
      (record { clear = inl refl; leads = (inr is, tt); shapes = λ there known. (known.led (target_site c.site text t) first is, tt) })

  static_rows : (k : List ℕ) (d : Data) (o : Option (List ℕ)) → IsRead k d (ref_row c k o)
  static_rows k d None = wrong _
  static_rows k d (Some text) = led k d static text (lookup c.documents c.site.base text) (λ t e. by_reference c.site.base text e)

  dynamic_rows : (k : List ℕ) (d : Data) (o : Option (List ℕ)) → IsRead k d (dynamic_row c k o)
  dynamic_rows k d None = wrong _
  dynamic_rows k d (Some text) = led k d dynamic text (dynamic_lookup c.documents c.site.base c.site.scope text) (λ t e. by_scope c.site.base c.site.scope text e)

  recursive_rows : (k : List ℕ) (d : Data) → IsRead k d (recursive_row c k d)
  recursive_rows k d =
      either (is_hash (as_str d)) _ _
      (led k d recursive (codes "#") (recursive_lookup c.documents c.site.base c.site.scope) (λ t e. by_run c.site.base c.site.scope e)) (wrong _)

  -- ---- conditions, which ask what is beside

  module _ (beside_known : is_some (beside c (codes "if")) ≡ true → IfSome (schema_beside c (codes "then")) P × IfSome (schema_beside c (codes "else")) P) where
    -- the keyword that is read has this name, and counts
    record IsCalled (key k : List ℕ) : Type 0 where
      same : key ≡ k
      counts : counts_here c k ≡ true

    if_rows : (k : List ℕ) (d : Data) → IsCalled (codes "if") k → IsRead k d (if_row c k d)
    if_rows k d is =
        let stands : Stands k → is_some (beside c (codes "if")) ≡ true =
        λ there. subst (λ l. is_some (beside c l) ≡ true) (sym is.same) (rw is.counts there) in
        either (is_some (beside c (codes "then")) || is_some (beside c (codes "else"))) _ _
        (ones k (λ s. condition s (schema_beside c (codes "then")) (schema_beside c (codes "else")) ∷ [])
        (λ there s h. ((h, (beside_known (stands there)).0, (beside_known (stands there)).1), tt)) d) nothing

    consequent_rows : (k : List ℕ) (d : Data) → IsRead k d (consequent_row c k d)
    consequent_rows k d = either (is_some (beside c (codes "if"))) _ _ (ones k _ (λ there s h. tt) d) nothing

    -- ---- the table

    abbrev IsReader : List ℕ × Reader → Type 0
    IsReader r = (k : List ℕ) (d : Data) → IsCalled r.0 k → IsRead k d (r.1 c k d)

    each_reader : AllByRecursion IsReader readers
    each_reader =
        (λ k d is. static_rows k d (as_str d))
        & (λ k d is. dynamic_rows k d (as_str d))
        & (λ k d is. recursive_rows k d)
        & (λ k d is. asserting k _ _ d (type_names d))
        & (λ k d is. asserting k _ _ d (as_array d))
        & (λ k d is. none_led [] _ (tt, tt))
        & (λ k d is. asserting k _ _ d (positive_of d))
        & (λ k d is. asserting k _ _ d (whole_number d))
        & (λ k d is. asserting k _ _ d (whole_number d))
        & (λ k d is. strict_limits k _ d)
        & (λ k d is. strict_limits k _ d)
        & (λ k d is. asserting k _ _ d (count_of d))
        & (λ k d is. asserting k _ _ d (count_of d))
        & (λ k d is. patterns k d (as_str d))
        & (λ k d is. asserting k _ _ d (count_of d))
        & (λ k d is. asserting k _ _ d (count_of d))
        & (λ k d is. uniques k d (as_bool d))
        & (λ k d is. asserting k _ _ d (count_of d))
        & (λ k d is. asserting k _ _ d (count_of d))
        & (λ k d is. asserts_known k _ unless_empty names_known d (unique_names d))
        & (λ k d is. required_rows k d)
        & (λ k d is. item_rows k d)
        & (λ k d is. lists k _ _ (λ ss h. h) d)
        & (λ k d is. behind_rows k d (option_and_then as_array (beside c (codes "items"))))
        & (λ k d is. one k _ (λ s h. h) d)
        & (λ k d is. bound_rows k d)
        & (λ k d is. bound_rows k d)
        & (λ k d is. maps k _ (λ ps h. h) d)
        & (λ k d is. pattern_rows k d)
        & (λ k d is. other_rows k d)
        & (λ k d is. name_rows k d)
        & (λ k d is. maps k _ (λ ps h. h) d)
        & (λ k d is. dependency_rows k d)
        & (λ k d is. lists k _ _ (λ ss h. h) d)
        & (λ k d is. lists k _ _ (λ ss h. h) d)
        & (λ k d is. lists k _ _ (λ ss h. h) d)
        & (λ k d is. one k _ (λ s h. h) d)
        & if_rows
        & (λ k d is. consequent_rows k d)
        & (λ k d is. consequent_rows k d)
        & (λ k d is. wrong _)
        & (λ k d is. wrong _)
        & tt

    among : (rs : List (List ℕ × Reader)) → AllByRecursion IsReader rs → (k : List ℕ) (d : Data) → counts_here c k ≡ true → IsRead k d (read_among rs c k d)
    among [] h k d counts = nothing
    among (r ∷ rs) h k d counts = by (bytes_eq r.0 k) refl (among rs h.1 k d counts)
      where
        by : (b : Bool) → bytes_eq r.0 k ≡ b → IsRead k d (read_among rs c k d) → IsRead k d (if b then r.1 c k d else read_among rs c k d)
        by true is rest = h.0 k d (record { same = (bytes_eq-Decides r.0 k).0 is; counts = counts })
        by false is rest = rest

    pub row_read : (k : List ℕ) (d : Data) → IsRead k d (row_at c k d)
    row_read k d = by (counts_here c k) refl
      where
        by : (b : Bool) → counts_here c k ≡ b → IsRead k d (if b then read_among readers c k d else nothing_read)
        by true is = among readers each_reader k d is
        by false is = nothing

-- ---- what holds of any keyword, wherever it stands

module _ (c : Context) where
  any_site : (o : Option Site) → IfSome o Any
  any_site None = tt
  any_site (Some s) = tt

  keyword_read : (k : List ℕ) (d : Data) → IsRead c Any Any k d (row_at c k d)
  keyword_read = row_read c Any Any (λ there. (any_site (schema_beside c (codes "then")), any_site (schema_beside c (codes "else"))))

  pub row_clear : (k : List ℕ) (d : Data) → ((row_at c k d).causes ≡ []) ⊎ ((row_at c k d).leads ≡ [])
  row_clear k d = (keyword_read k d).clear

  pub row_leads : (k : List ℕ) (d : Data) → AllByRecursion (IsLead c k d) (row_at c k d).leads
  row_leads k d = (keyword_read k d).leads

-- ---- what the shapes of a schema's members ask

module _ (c : Context) (P R : Site → Type 0)
    (below_so : (k : List ℕ) (d : Data) → HoldsMember k d c.members → (x : Site) → In x (row_at c k d).leads → IsBelow c k d x → P x)
    (led_so : (k : List ℕ) (d : Data) → HoldsMember k d c.members → (x : Site) → In x (row_at c k d).leads → IsLed c x → R x) where
  found : (key : List ℕ) (d : Data) → HoldsMember key d c.members → (r : Result Site (List BuildCause)) → IfOk r (IsBelow c key d)
      → row_at c key d ≡ row_of (λ s. s ∷ []) (λ s. []) r → IfSome (elim r [ Ok s ↦ Some s | Err e ↦ None ]) P
  found key d h (Ok s) b e = below_so key d h s (subst (λ (w : Row). In s w.leads) (sym e) first) b
  found key d h (Err causes) b e = tt

  -- what stands beside `if` is led to by its own keyword
  consequent_known : (key : List ℕ) → ((d : Data) → read_among readers c key d ≡ consequent_row c key d) → is_some (beside c (codes "if")) ≡ true
      → IfSome (schema_beside c key) P
  consequent_known key reads there = by (counts_here c key) refl (get_member key c.members) refl
    where
      by : (b : Bool) → counts_here c key ≡ b → (o : Option Data) → get_member key c.members ≡ o
          → IfSome (option_and_then (λ d. elim (subschema c (at key) d) [ Ok s ↦ Some s | Err e ↦ None ]) (if b then o else None)) P
      by false counts o is = tt
      by true counts None is = tt
      by true counts (Some d) is =
          found key d (held_found key d c.members is) (subschema c (at key) d) (part_below c key d (at key) d itself)
          (ap (λ b. if b then read_among readers c key d else nothing_read) counts ∙ reads d ∙ ap (λ b. if b then one_schema c key (λ s. []) d else nothing_read) there)

  pub shapes_hold : (ms : Members) → Among c.members ms → AllByRecursion (λ r. AllByRecursion (Holds P R) r.shapes) (rows_of c ms)
  shapes_hold no_members f = tt
  shapes_hold (member k d ms) f =
      let h = f k d here in
      let row = row_read c P R (λ there. (consequent_known (codes "then") (λ e. refl) there, consequent_known (codes "else") (λ e. refl) there)) k d in
      (row.shapes (held_stands k d c.members h) (record { below = below_so k d h; led = led_so k d h }), shapes_hold ms (λ n e g. f n e (behind g)))
