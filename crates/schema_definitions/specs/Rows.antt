-- What each keyword is, read from its value and its neighbours: its causes, the sites of its subschemas, and its shapes.
use Rattle.std.specs.Prelude.{ℕ, ℤ, suc, List, [], ◌∷◌, ◌++◌, map, Bool, true, false, not, ◌&&◌, ◌||◌, bytes_eq, codes, if◌then◌else◌, Option, Some, None, option_map, option_and_then, is_some, Result, Ok, Err}
use Rattle.std.specs.List.{flat_map}
use Rattle.serde_json.specs.Data.{Data, null, boolean, number, string, array, object, Items, no_items, item, Members, no_members, member}
use Rattle.serde_json.specs.Find.{get_member, as_str, as_array, as_object, as_bool}
use Rattle.uri_references.specs.Passed.{is_reference, split}
use Rattle.json_values.specs.Parts.{Part, name, index}
use Rattle.schema_drafts.specs.Counts.{counts}
use Rattle.schema_drafts.specs.declared.draft.Draft.{Draft}
use Rattle.schema_drafts.specs.declared.draft.Draft.TheVariants.{Draft4, Draft6, Draft7, Draft201909, Draft202012, Unknown}
use Rattle.json_values.specs.Patterns.{literal_of}
use Rattle.json_values.specs.Texts.{count_items}
use Rattle.schema_definitions.specs.Words.{or, listed, result_map}
use Rattle.schema_definitions.specs.Identifiers.{identifier_text}
use Rattle.schema_definitions.specs.Places.{is_schema}
use Rattle.schema_definitions.specs.Bearers.{Documents}
use Rattle.schema_definitions.specs.Lookup.{LookupCause, invalid_uri, Target, lookup}
use Rattle.schema_definitions.specs.Scopes.{dynamic_lookup, recursive_lookup}
use Rattle.schema_meaning.specs.Questions.{Declared}
use Rattle.schema_meaning.specs.Keywords.{Assertion, types, constant, enumeration, multiple_of, maximum, exclusive_maximum, minimum, exclusive_minimum, maximum_of_draft_4, minimum_of_draft_4, max_length, min_length, pattern, max_items, min_items, unique_items, max_properties, min_properties, required, dependent_required, Reference, static, dynamic, recursive, Dependency, needs, applies, Shape, never, asserts, items, item_list, prefix_items, additional_items, no_additional_items, contains, properties, pattern_properties, additional_properties, no_additional_properties, no_properties, property_names, no_property_names, dependent_schemas, dependencies, all_of, any_of, one_of, negation, condition, reference}
use Rattle.schema_definitions.specs.Sites.{Site, below, target_site}
use Rattle.schema_definitions.specs.Values.{type_names, whole_number, count_of, positive_of, names_in, if_none_twice, unique_names}

-- a document and a path in it, last part first
pub record Place : Type 0 where
  pub document : List ℕ
  pub path : List Part

-- why a schema is not built, and where
pub data BuildCause : Type 0 where
  keyword_value : Place → List ℕ → BuildCause
  bad_pattern : Place → BuildCause
  left_out : Place → BuildCause
  bad_reference : Place → LookupCause → BuildCause

-- what a keyword is: what is wrong with it, the sites of its subschemas and targets, and its shapes
pub record Row : Type 0 where
  pub causes : List BuildCause
  pub leads : List Site
  pub shapes : List (Shape Site)

abbrev pub nothing_read : Row
nothing_read = record { causes = []; leads = []; shapes = [] }

abbrev pub refused : List BuildCause → Row
refused causes = record { causes = causes; leads = []; shapes = [] }

abbrev pub reads : List Site → List (Shape Site) → Row
reads leads shapes = record { causes = []; leads = leads; shapes = shapes }

-- what a keyword is read in: the documents, the patterns that the pattern maker makes, the site and the members of its schema
pub record Context : Type 0 where
  pub documents : Documents
  pub makes : List ℕ → Bool
  pub site : Site
  pub members : Members

-- ---- neighbours: read only where they count

abbrev pub has_reference : Members → Bool
has_reference ms = is_some (get_member (codes "$ref") ms)

abbrev pub counts_here : Context → List ℕ → Bool
counts_here c k = counts c.site.dialect (has_reference c.members) k

abbrev pub beside : Context → List ℕ → Option Data
beside c k = if counts_here c k then get_member k c.members else None

-- ---- places and subschemas

abbrev pub place_at : Context → List Part → Place
place_at c added = record { document = c.site.document; path = added ++ c.site.path }

abbrev pub expected : Context → List Part → List ℕ → List BuildCause
expected c added word = keyword_value (place_at c added) word ∷ []

abbrev pub at : List ℕ → List Part
at k = name k ∷ []

abbrev pub bad_value : Context → List ℕ → List ℕ → Row
bad_value c k word = refused (expected c (at k) word)

-- a subschema: an object or a boolean
abbrev pub subschema : Context → List Part → Data → Result Site (List BuildCause)
subschema c added d = if is_schema d then Ok (below c.documents c.site added d) else Err (expected c added (codes "schema"))

-- each that is right, if all are; else all that is wrong
abbrev pub and_more : {A : Type 0} → Result A (List BuildCause) → Result (List A) (List BuildCause) → Result (List A) (List BuildCause)
and_more (Ok x) (Ok xs) = Ok (x ∷ xs)
and_more (Ok x) (Err more) = Err more
and_more (Err wrong) (Ok xs) = Err wrong
and_more (Err wrong) (Err more) = Err (wrong ++ more)

abbrev pub each_subschema : Context → List ℕ → ℕ → Items → Result (List Site) (List BuildCause)
each_subschema c k i no_items = Ok []
each_subschema c k i (item d ds) = and_more (subschema c (index i ∷ name k ∷ []) d) (each_subschema c k (suc i) ds)

abbrev pub named_result : List ℕ → Result Site (List BuildCause) → Result (List ℕ × Site) (List BuildCause)
named_result n r = result_map (λ s. (n, s)) r

abbrev pub each_named : Context → List ℕ → Members → Result (List (List ℕ × Site)) (List BuildCause)
each_named c k no_members = Ok []
each_named c k (member n d ms) = and_more (named_result n (subschema c (name n ∷ name k ∷ []) d)) (each_named c k ms)

abbrev pub row_of : {A : Type 0} → (A → List Site) → (A → List (Shape Site)) → Result A (List BuildCause) → Row
row_of leads shapes (Ok x) = reads (leads x) (shapes x)
row_of leads shapes (Err causes) = refused causes

abbrev pub one_schema : Context → List ℕ → (Site → List (Shape Site)) → Data → Row
one_schema c k shapes d = row_of (λ s. s ∷ []) shapes (subschema c (at k) d)

abbrev pub in_list : {A : Type 0} → (Items → A) → A → Data → A
in_list f other null = other
in_list f other (boolean b) = other
in_list f other (number n) = other
in_list f other (string s) = other
in_list f other (array ds) = f ds
in_list f other (object ms) = other

abbrev pub in_object : {A : Type 0} → (Members → A) → A → Data → A
in_object f other null = other
in_object f other (boolean b) = other
in_object f other (number n) = other
in_object f other (string s) = other
in_object f other (array ds) = other
in_object f other (object ms) = f ms

abbrev pub schema_list : Context → List ℕ → List ℕ → (List Site → Shape Site) → Data → Row
schema_list c k word shape d = in_list (λ ds. row_of (λ ss. ss) (λ ss. shape ss ∷ []) (each_subschema c k 0 ds)) (bad_value c k word) d

abbrev pub sites_named : List (List ℕ × Site) → List Site
sites_named ps = map (λ p. p.1) ps

abbrev pub schema_map : Context → List ℕ → (List (List ℕ × Site) → Shape Site) → Data → Row
schema_map c k shape d = in_object (λ ms. row_of sites_named (λ ps. shape ps ∷ []) (each_named c k ms)) (bad_value c k (codes "object")) d

-- ---- assertions

abbrev pub asserted : {A : Type 0} → Context → List ℕ → List ℕ → (A → List (Shape Site)) → Option A → Row
asserted c k word shapes None = bad_value c k word
asserted c k word shapes (Some x) = reads [] (shapes x)

abbrev pub assertion : Assertion → List (Shape Site)
assertion a = asserts a ∷ []

abbrev pub counted : Context → List ℕ → (ℕ → Assertion) → Data → Row
counted c k a d = asserted c k (codes "count") (λ n. assertion (a n)) (count_of d)

abbrev pub is_draft_4 : Draft → Bool
is_draft_4 Draft4 = true
is_draft_4 Draft6 = false
is_draft_4 Draft7 = false
is_draft_4 Draft201909 = false
is_draft_4 Draft202012 = false
is_draft_4 Unknown = false

abbrev pub is_true : Option Data → Bool
is_true o = or false (option_and_then as_bool o)

-- a limit; in Draft 4 the boolean beside makes it strict
abbrev pub limit : Context → List ℕ → List ℕ → (ℤ → Assertion) → (ℤ → Bool → Assertion) → Data → Row
limit c k strict a old d =
    asserted c k (codes "number") (λ z. assertion (if is_draft_4 c.site.dialect.draft then old z (is_true (beside c strict)) else a z)) (whole_number d)

abbrev pub strict_limit : Context → List ℕ → (ℤ → Assertion) → Data → Row
strict_limit c k a d =
    if is_draft_4 c.site.dialect.draft then nothing_read else asserted c k (codes "number") (λ z. assertion (a z)) (whole_number d)

-- a literal form needs no maker
abbrev pub is_made : Context → List ℕ → Bool
is_made c p = is_some (literal_of p) || c.makes p

abbrev pub pattern_row : Context → List ℕ → Option (List ℕ) → Row
pattern_row c k None = bad_value c k (codes "text")
pattern_row c k (Some p) = if is_made c p then reads [] (assertion (pattern p)) else refused (bad_pattern (place_at c (at k)) ∷ [])

abbrev pub unique_row : Context → List ℕ → Option Bool → Row
unique_row c k None = bad_value c k (codes "boolean")
unique_row c k (Some b) = reads [] (if b then assertion unique_items else [])

abbrev pub unless_empty : List (List ℕ) → List (Shape Site)
unless_empty [] = []
unless_empty (k ∷ ks) = assertion (required (k ∷ ks))

-- ---- items

abbrev pub length_of_list : Option Data → ℕ
length_of_list o = or 0 (option_map (λ ds. count_items ds) (option_and_then as_array o))

abbrev pub takes_list : Draft → Bool
takes_list Draft4 = true
takes_list Draft6 = true
takes_list Draft7 = true
takes_list Draft201909 = true
takes_list Draft202012 = false
takes_list Unknown = false

abbrev pub items_row : Context → List ℕ → Data → Row
items_row c k d =
    if is_schema d
    then one_schema c k (λ s. items (length_of_list (beside c (codes "prefixItems"))) s ∷ []) d
    else (if takes_list c.site.dialect.draft then schema_list c k (codes "schema or list") item_list d else bad_value c k (codes "schema"))

abbrev pub is_false : Data → Bool
is_false (boolean b) = not b
is_false null = false
is_false (number n) = false
is_false (string s) = false
is_false (array ds) = false
is_false (object ms) = false

-- read only beside `items` as a list
abbrev pub behind_items : Context → List ℕ → Data → Option Items → Row
behind_items c k d None = nothing_read
behind_items c k d (Some ds) =
    let start = count_items ds in
    one_schema c k (λ s. (if is_false d then no_additional_items start s else additional_items start s) ∷ []) d

abbrev pub additional_items_row : Context → List ℕ → Data → Row
additional_items_row c k d = behind_items c k d (option_and_then as_array (beside c (codes "items")))

abbrev pub contains_row : Context → List ℕ → Data → Row
contains_row c k d =
    one_schema c k (λ s. contains s (option_and_then count_of (beside c (codes "minContains"))) (option_and_then count_of (beside c (codes "maxContains"))) ∷ []) d

-- `minContains` and `maxContains` are read with the `contains` beside
abbrev pub bound_row : Context → List ℕ → Data → Row
bound_row c k d =
    if is_some (beside c (codes "contains")) then asserted c k (codes "count") (λ n. []) (count_of d) else nothing_read

-- ---- members

abbrev pub member_names : Members → List (List ℕ)
member_names no_members = []
member_names (member k d ms) = k ∷ member_names ms

abbrev pub names_of_object : Option Data → List (List ℕ)
names_of_object o = or [] (option_map member_names (option_and_then as_object o))

abbrev pub declared_beside : Context → Declared
declared_beside c = record { names = names_of_object (beside c (codes "properties")); patterns = names_of_object (beside c (codes "patternProperties")) }

abbrev pub is_alone : Context → Bool
is_alone c = not (is_some (beside c (codes "properties"))) && not (is_some (beside c (codes "patternProperties")))

abbrev pub refuses_others : Context → Site → Shape Site
refuses_others c s = if is_alone c then no_properties s else no_additional_properties (declared_beside c) s

abbrev pub additional_properties_row : Context → List ℕ → Data → Row
additional_properties_row c k (boolean true) = nothing_read
additional_properties_row c k (boolean false) = one_schema c k (λ s. refuses_others c s ∷ []) (boolean false)
additional_properties_row c k (object ms) = one_schema c k (λ s. additional_properties (declared_beside c) s ∷ []) (object ms)
additional_properties_row c k null = bad_value c k (codes "schema")
additional_properties_row c k (number n) = bad_value c k (codes "schema")
additional_properties_row c k (string s) = bad_value c k (codes "schema")
additional_properties_row c k (array ds) = bad_value c k (codes "schema")

abbrev pub patterns_wrong : Context → List ℕ → List (List ℕ) → List BuildCause
patterns_wrong c k ps = flat_map (λ p. if is_made c p then [] else bad_pattern (place_at c (name p ∷ name k ∷ [])) ∷ []) ps

abbrev pub with_causes : List BuildCause → Row → Row
with_causes [] row = row
with_causes (b ∷ bs) row = refused ((b ∷ bs) ++ row.causes)

abbrev pub pattern_properties_row : Context → List ℕ → Data → Row
pattern_properties_row c k d = with_causes (patterns_wrong c k (names_of_object (Some d))) (schema_map c k pattern_properties d)

abbrev pub property_names_row : Context → List ℕ → Data → Row
property_names_row c k (object ms) = one_schema c k (λ s. property_names s ∷ []) (object ms)
property_names_row c k (boolean false) = one_schema c k (λ s. no_property_names s ∷ []) (boolean false)
property_names_row c k (boolean true) = nothing_read
property_names_row c k null = nothing_read
property_names_row c k (number n) = nothing_read
property_names_row c k (string s) = nothing_read
property_names_row c k (array ds) = nothing_read

-- the names of a list entry: an element that is no text is wrong at the keyword, a repeated name at the entry
abbrev pub entry_names : Context → List ℕ → List ℕ → Option (List (List ℕ)) → Result (List (List ℕ)) (List BuildCause)
entry_names c k n None = Err (expected c (at k) (codes "unique names"))
entry_names c k n (Some names) =
    elim (if_none_twice names) [ None ↦ Err (expected c (name n ∷ name k ∷ []) (codes "unique names")) | Some ks ↦ Ok ks ]

abbrev pub required_entry : Context → List ℕ → List ℕ → Data → Result (List ℕ × List (List ℕ)) (List BuildCause)
required_entry c k n d =
    in_list (λ ds. result_map (λ names. (n, names)) (entry_names c k n (names_in ds))) (Err (expected c (name n ∷ name k ∷ []) (codes "list"))) d

abbrev pub required_entries : Context → List ℕ → Members → Result (List (List ℕ × List (List ℕ))) (List BuildCause)
required_entries c k no_members = Ok []
required_entries c k (member n d ms) = and_more (required_entry c k n d) (required_entries c k ms)

abbrev pub dependent_required_row : Context → List ℕ → Data → Row
dependent_required_row c k d =
    in_object (λ ms. row_of (λ ps. []) (λ ps. assertion (dependent_required ps)) (required_entries c k ms)) (bad_value c k (codes "object")) d

abbrev pub dependency_entry : Context → List ℕ → List ℕ → Data → Result (List ℕ × Dependency Site) (List BuildCause)
dependency_entry c k n d =
    in_list (λ ds. result_map (λ names. (n, needs names)) (entry_names c k n (names_in ds)))
    (result_map (λ s. (n, applies s)) (subschema c (name n ∷ name k ∷ []) d)) d

abbrev pub dependency_entries : Context → List ℕ → Members → Result (List (List ℕ × Dependency Site)) (List BuildCause)
dependency_entries c k no_members = Ok []
dependency_entries c k (member n d ms) = and_more (dependency_entry c k n d) (dependency_entries c k ms)

abbrev pub sites_applied : List (List ℕ × Dependency Site) → List Site
sites_applied [] = []
sites_applied (p ∷ ps) = elim p.1 [ needs names ↦ [] | applies s ↦ s ∷ [] ] ++ sites_applied ps

abbrev pub dependencies_row : Context → List ℕ → Data → Row
dependencies_row c k d =
    in_object (λ ms. row_of sites_applied (λ ps. dependencies ps ∷ []) (dependency_entries c k ms)) (bad_value c k (codes "object")) d

-- ---- conditions: `if` is read with `then` or `else` beside, and these with `if` beside

abbrev pub schema_beside : Context → List ℕ → Option Site
schema_beside c k = option_and_then (λ d. elim (subschema c (at k) d) [ Ok s ↦ Some s | Err e ↦ None ]) (beside c k)

abbrev pub if_row : Context → List ℕ → Data → Row
if_row c k d =
    if is_some (beside c (codes "then")) || is_some (beside c (codes "else"))
    then one_schema c k (λ s. condition s (schema_beside c (codes "then")) (schema_beside c (codes "else")) ∷ []) d
    else nothing_read

abbrev pub consequent_row : Context → List ℕ → Data → Row
consequent_row c k d = if is_some (beside c (codes "if")) then one_schema c k (λ s. []) d else nothing_read

-- ---- references

-- a target that is no schema is wrong there
abbrev pub no_schema_there : Target → List BuildCause
no_schema_there t = if is_schema t.contents then [] else keyword_value (record { document = t.document; path = t.path }) (codes "schema") ∷ []

abbrev pub led_to : Context → List ℕ → Reference → List ℕ → Result Target LookupCause → Row
led_to c k r reference_text (Err cause) = refused (bad_reference (place_at c (at k)) cause ∷ [])
led_to c k r reference_text (Ok t) =
    let site = target_site c.site reference_text t in
    with_causes (no_schema_there t) (reads (site ∷ []) (reference r site ∷ []))

abbrev pub ref_row : Context → List ℕ → Option (List ℕ) → Row
ref_row c k None = bad_value c k (codes "text")
ref_row c k (Some t) = led_to c k static t (lookup c.documents c.site.base t)

abbrev pub dynamic_row : Context → List ℕ → Option (List ℕ) → Row
dynamic_row c k None = bad_value c k (codes "text")
dynamic_row c k (Some t) = led_to c k dynamic t (dynamic_lookup c.documents c.site.base c.site.scope t)

abbrev pub is_hash : Option (List ℕ) → Bool
is_hash None = false
is_hash (Some t) = bytes_eq t (codes "#")

abbrev pub recursive_row : Context → List ℕ → Data → Row
recursive_row c k d =
    if is_hash (as_str d) then led_to c k recursive (codes "#") (recursive_lookup c.documents c.site.base c.site.scope) else bad_value c k (codes "text #")

-- ---- identifiers

-- One that is no URI reference is wrong where it stands. At a schema place of a document it is wrong of the document already.
abbrev pub identifier_causes : Site → List BuildCause
identifier_causes s =
    flat_map (λ i. if is_reference (split i) then [] else bad_reference (record { document = s.document; path = s.path }) (invalid_uri i) ∷ [])
    (listed (identifier_text s.dialect s.contents))

-- ---- the table

abbrev pub Reader : Type 0
Reader = Context → List ℕ → Data → Row

abbrev pub readers : List (List ℕ × Reader)
readers =
    (codes "$ref", λ c k d. ref_row c k (as_str d))
    ∷ (codes "$dynamicRef", λ c k d. dynamic_row c k (as_str d))
    ∷ (codes "$recursiveRef", recursive_row)
    ∷ (codes "type", λ c k d. asserted c k (codes "type name") (λ ts. assertion (types ts)) (type_names d))
    ∷ (codes "enum", λ c k d. asserted c k (codes "list") (λ ds. assertion (enumeration ds)) (as_array d))
    ∷ (codes "const", λ c k d. reads [] (assertion (constant d)))
    ∷ (codes "multipleOf", λ c k d. asserted c k (codes "positive number") (λ n. assertion (multiple_of n)) (positive_of d))
    ∷ (codes "maximum", λ c k d. limit c k (codes "exclusiveMaximum") maximum maximum_of_draft_4 d)
    ∷ (codes "minimum", λ c k d. limit c k (codes "exclusiveMinimum") minimum minimum_of_draft_4 d)
    ∷ (codes "exclusiveMaximum", λ c k d. strict_limit c k exclusive_maximum d)
    ∷ (codes "exclusiveMinimum", λ c k d. strict_limit c k exclusive_minimum d)
    ∷ (codes "maxLength", λ c k d. counted c k max_length d)
    ∷ (codes "minLength", λ c k d. counted c k min_length d)
    ∷ (codes "pattern", λ c k d. pattern_row c k (as_str d))
    ∷ (codes "maxItems", λ c k d. counted c k max_items d)
    ∷ (codes "minItems", λ c k d. counted c k min_items d)
    ∷ (codes "uniqueItems", λ c k d. unique_row c k (as_bool d))
    ∷ (codes "maxProperties", λ c k d. counted c k max_properties d)
    ∷ (codes "minProperties", λ c k d. counted c k min_properties d)
    ∷ (codes "required", λ c k d. asserted c k (codes "unique names") unless_empty (unique_names d))
    ∷ (codes "dependentRequired", dependent_required_row)
    ∷ (codes "items", items_row)
    ∷ (codes "prefixItems", λ c k d. schema_list c k (codes "list") prefix_items d)
    ∷ (codes "additionalItems", additional_items_row)
    ∷ (codes "contains", contains_row)
    ∷ (codes "minContains", bound_row)
    ∷ (codes "maxContains", bound_row)
    ∷ (codes "properties", λ c k d. schema_map c k properties d)
    ∷ (codes "patternProperties", pattern_properties_row)
    ∷ (codes "additionalProperties", additional_properties_row)
    ∷ (codes "propertyNames", property_names_row)
    ∷ (codes "dependentSchemas", λ c k d. schema_map c k dependent_schemas d)
    ∷ (codes "dependencies", dependencies_row)
    ∷ (codes "allOf", λ c k d. schema_list c k (codes "list") all_of d)
    ∷ (codes "anyOf", λ c k d. schema_list c k (codes "list") any_of d)
    ∷ (codes "oneOf", λ c k d. schema_list c k (codes "list") one_of d)
    ∷ (codes "not", λ c k d. one_schema c k (λ s. negation d s ∷ []) d)
    ∷ (codes "if", if_row)
    ∷ (codes "then", consequent_row)
    ∷ (codes "else", consequent_row)
    ∷ (codes "unevaluatedItems", λ c k d. refused (left_out (place_at c (at k)) ∷ []))
    ∷ (codes "unevaluatedProperties", λ c k d. refused (left_out (place_at c (at k)) ∷ []))
    ∷ []

abbrev pub read_among : List (List ℕ × Reader) → Context → List ℕ → Data → Row
read_among [] c k d = nothing_read
read_among (r ∷ rs) c k d = if bytes_eq r.0 k then r.1 c k d else read_among rs c k d

-- a member of a schema: a keyword that counts, or nothing
abbrev pub row_at : Context → List ℕ → Data → Row
row_at c k d = if counts_here c k then read_among readers c k d else nothing_read

abbrev pub rows_of : Context → Members → List Row
rows_of c no_members = []
rows_of c (member k d ms) = row_at c k d ∷ rows_of c ms

-- what is no schema is wrong where it stands
abbrev pub no_schema : Site → List Row
no_schema s = refused (keyword_value (record { document = s.document; path = s.path }) (codes "schema") ∷ []) ∷ []

abbrev pub rows_in : Site → (Members → Context) → Data → List Row
rows_in s context null = no_schema s
rows_in s context (boolean true) = []
rows_in s context (boolean false) = reads [] (never ∷ []) ∷ []
rows_in s context (number n) = no_schema s
rows_in s context (string t) = no_schema s
rows_in s context (array ds) = no_schema s
rows_in s context (object ms) = rows_of (context ms) ms

-- all that stands at a site
unfoldable pub rows_at : Documents → (List ℕ → Bool) → Site → List Row
rows_at docs makes s = rows_in s (λ ms. record { documents = docs; makes = makes; site = s; members = ms }) s.contents
