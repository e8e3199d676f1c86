-- The keywords, each already read from its value and the neighbours that it reads: a name, what it asks over sites of
-- subschemas, and the rule that it follows at a value. Sections are those of JSON Schema Validation 2020-12 (V) and Core 2020-12 (C).
use Rattle.std.specs.Prelude.{ℕ, ℤ, nat_le, List, [], ◌∷◌, ◌++◌, map, Bool, true, false, Option, Some, None, codes}
use Rattle.std.specs.List.{filter, flat_map}
use Rattle.serde_json.specs.Data.{Data, null, boolean, number, string, array, object, Items, Members}
use Rattle.serde_json.specs.Find.{get}
use Rattle.json_values.specs.Kinds.{Primitive, has_some_type}
use Rattle.json_values.specs.Equality.{equal, is_among, all_distinct}
use Rattle.json_values.specs.Numbers.{number_is, at_least, at_most, above, below, is_multiple}
use Rattle.json_values.specs.Texts.{code_points, count_items, count_members}
use Rattle.json_values.specs.Patterns.{matched}
use Rattle.schema_meaning.specs.Places.{stay}
use Rattle.schema_meaning.specs.Faults.{Kind, AdditionalItems, AdditionalProperties, Constant, Enumeration, ExclusiveMaximum, ExclusiveMinimum, FalseSchema, MaxItems, Maximum, MaxLength, MaxProperties, MinItems, Minimum, MinLength, MinProperties, MultipleOf, Not, Pattern, Required, Types, UniqueItems}
use Rattle.schema_meaning.specs.Questions.{Question, question, at, at_name, here, each_branch, items_of, items_from, each_item, item_by_item, members_of, if_member, each_declared, each_matching, Declared, other_members, each_member, each_name, names_of, each_triggered}
use Rattle.schema_meaning.specs.Rules.{Note, Rule, every, together, each_named, some_branch, one_branch, refusal, counted, conditional, consequents}

-- ---- assertions: keywords without subschemas

pub data Assertion : Type 0 where
  types : List Primitive → Assertion
  constant : Data → Assertion
  enumeration : Items → Assertion
  multiple_of : ℕ → Assertion
  maximum : ℤ → Assertion
  exclusive_maximum : ℤ → Assertion
  minimum : ℤ → Assertion
  exclusive_minimum : ℤ → Assertion
  -- Draft 4's limits, with the boolean beside that makes them strict
  maximum_of_draft_4 : ℤ → Bool → Assertion
  minimum_of_draft_4 : ℤ → Bool → Assertion
  max_length : ℕ → Assertion
  min_length : ℕ → Assertion
  pattern : List ℕ → Assertion
  max_items : ℕ → Assertion
  min_items : ℕ → Assertion
  unique_items : Assertion
  max_properties : ℕ → Assertion
  min_properties : ℕ → Assertion
  required : List (List ℕ) → Assertion
  -- for each name that is a member, the names that must be members too
  dependent_required : List (List ℕ × List (List ℕ)) → Assertion

-- ---- which references

pub data Reference : Type 0 where
  static : Reference
  dynamic : Reference
  recursive : Reference

-- an entry of `dependencies`: names that must be members, or a schema for the object
pub data Dependency (S : Type 0) : Type 0 where
  needs : List (List ℕ) → Dependency S
  applies : S → Dependency S

-- ---- what keywords ask of a value, over sites

pub data Form (S : Type 0) : Type 0 where
  -- each item from a start on, by one schema
  each_from : ℕ → S → Form S
  -- each item, by the schema of its index
  by_index : List S → Form S
  -- each member of these names, by its name's schema
  by_name : List (List ℕ × S) → Form S
  -- each member whose name one of these patterns matches, by the pattern's schema
  by_pattern : List (List ℕ × S) → Form S
  -- each member that is not declared beside; each member; each member's name: by one schema
  of_others : Declared → S → Form S
  of_members : S → Form S
  of_names : S → Form S
  -- the value, by the schema of each of these names that is a member's
  of_triggered : List (List ℕ × S) → Form S
  of_dependencies : List (List ℕ × Dependency S) → Form S
  -- the value, by each schema of a list; by one schema, with its text
  of_branches : List S → Form S
  of_value : Data → S → Form S
  -- the value, by the first schema, and by those beside
  of_condition : S → Option S → Option S → Form S

-- ---- keywords over sites: a name, what is asked, and the rule by which the answers count

pub data Shape (S : Type 0) : Type 0 where
  -- the schema `false`
  never : Shape S
  asserts : Assertion → Shape S
  -- every answer has to be yes; the faults are those below
  asks_every : List ℕ → Form S → Shape S
  -- every answer has to be yes, and one fault speaks for all
  asks_together : List ℕ → Form S → Shape S
  -- a schema for each member's name
  asks_names : List ℕ → S → Shape S
  -- one answer or more has to be yes; exactly one
  asks_some : List ℕ → Form S → Shape S
  asks_one : List ℕ → Form S → Shape S
  -- the answer has to be no; with the schema's own text, which the fault carries
  asks_no : List ℕ → Data → S → Shape S
  -- `contains`, with `minContains` and `maxContains` where they stand beside
  contains : S → Option ℕ → Option ℕ → Shape S
  -- `if` with `then` and `else` where they stand beside
  condition : S → Option S → Option S → Shape S
  -- a reference, over the site of its target
  reference : Reference → S → Shape S

-- one schema for the items from the start-th on
abbrev pub items : {S : Type 0} → ℕ → S → Shape S
items start s = asks_every (codes "items") (each_from start s)

-- `items` as a list, and `prefixItems`: a schema an index
abbrev pub item_list : {S : Type 0} → List S → Shape S
item_list ss = asks_every (codes "items") (by_index ss)

abbrev pub prefix_items : {S : Type 0} → List S → Shape S
prefix_items ss = asks_every (codes "prefixItems") (by_index ss)

-- beside `items` as a list: a schema for the items from the start-th on; a `false` one
abbrev pub additional_items : {S : Type 0} → ℕ → S → Shape S
additional_items start s = asks_every (codes "additionalItems") (each_from start s)

abbrev pub no_additional_items : {S : Type 0} → ℕ → S → Shape S
no_additional_items start s = asks_together (codes "additionalItems") (each_from start s)

abbrev pub properties : {S : Type 0} → List (List ℕ × S) → Shape S
properties ps = asks_every (codes "properties") (by_name ps)

abbrev pub pattern_properties : {S : Type 0} → List (List ℕ × S) → Shape S
pattern_properties ps = asks_every (codes "patternProperties") (by_pattern ps)

-- with what `properties` and `patternProperties` beside declare; a `false` one; a `false` one where neither stands beside
abbrev pub additional_properties : {S : Type 0} → Declared → S → Shape S
additional_properties declared s = asks_every (codes "additionalProperties") (of_others declared s)

abbrev pub no_additional_properties : {S : Type 0} → Declared → S → Shape S
no_additional_properties declared s = asks_together (codes "additionalProperties") (of_others declared s)

abbrev pub no_properties : {S : Type 0} → S → Shape S
no_properties s = asks_together (codes "additionalProperties") (of_members s)

-- a schema for each name; a `false` one
abbrev pub property_names : {S : Type 0} → S → Shape S
property_names s = asks_names (codes "propertyNames") s

abbrev pub no_property_names : {S : Type 0} → S → Shape S
no_property_names s = asks_together (codes "propertyNames") (of_names s)

abbrev pub dependent_schemas : {S : Type 0} → List (List ℕ × S) → Shape S
dependent_schemas ps = asks_every (codes "dependentSchemas") (of_triggered ps)

abbrev pub dependencies : {S : Type 0} → List (List ℕ × Dependency S) → Shape S
dependencies ps = asks_every (codes "dependencies") (of_dependencies ps)

abbrev pub all_of : {S : Type 0} → List S → Shape S
all_of ss = asks_every (codes "allOf") (of_branches ss)

abbrev pub any_of : {S : Type 0} → List S → Shape S
any_of ss = asks_some (codes "anyOf") (of_branches ss)

abbrev pub one_of : {S : Type 0} → List S → Shape S
one_of ss = asks_one (codes "oneOf") (of_branches ss)

abbrev pub negation : {S : Type 0} → Data → S → Shape S
negation schema s = asks_no (codes "not") schema s

-- ---- what an assertion finds wrong

abbrev pub unless : Bool → Kind → Data → List Note
unless true kind d = []
unless false kind d = record { kind = kind; value = d } ∷ []

-- limits on lengths and counts; values of another type are accepted
abbrev pub text_is : (List ℕ → Bool) → Data → Bool
text_is test null = true
text_is test (boolean b) = true
text_is test (number n) = true
text_is test (string s) = test s
text_is test (array ds) = true
text_is test (object ms) = true

abbrev pub list_is : (Items → Bool) → Data → Bool
list_is test null = true
list_is test (boolean b) = true
list_is test (number n) = true
list_is test (string s) = true
list_is test (array ds) = test ds
list_is test (object ms) = true

abbrev pub map_is : (Members → Bool) → Data → Bool
map_is test null = true
map_is test (boolean b) = true
map_is test (number n) = true
map_is test (string s) = true
map_is test (array ds) = true
map_is test (object ms) = test ms

abbrev pub if_object : {A : Type 0} → Data → List A → List A
if_object null xs = []
if_object (boolean b) xs = []
if_object (number n) xs = []
if_object (string s) xs = []
if_object (array ds) xs = []
if_object (object ms) xs = xs

abbrev pub none_there : Option Data → Bool
none_there None = true
none_there (Some e) = false

-- a note for each of the names that is no member
abbrev pub missing : List (List ℕ) → Data → List Note
missing names d = if_object d (map (λ k. record { kind = Required k; value = d }) (filter (λ k. none_there (get k d)) names))

-- the same for each entry whose name is a member
abbrev pub missing_beside : List (List ℕ × List (List ℕ)) → Data → List Note
missing_beside ps d = flat_map (λ p. if_member (get p.0 d) (λ e. missing p.1 d)) ps

abbrev pub wrong : (List ℕ → List ℕ → Bool) → Assertion → Data → List Note
wrong matches (types ts) d = unless (has_some_type ts d) (Types ts) d  -- V 6.1.1
wrong matches (enumeration ds) d = unless (is_among d ds) (Enumeration ds) d  -- V 6.1.2
wrong matches (constant e) d = unless (equal d e) (Constant e) d  -- V 6.1.3
wrong matches (multiple_of n) d = unless (number_is (is_multiple n) d) (MultipleOf n) d  -- V 6.2.1
wrong matches (maximum z) d = unless (number_is (at_most z) d) (Maximum z) d  -- V 6.2.2
wrong matches (exclusive_maximum z) d = unless (number_is (below z) d) (ExclusiveMaximum z) d  -- V 6.2.3
wrong matches (minimum z) d = unless (number_is (at_least z) d) (Minimum z) d  -- V 6.2.4
wrong matches (exclusive_minimum z) d = unless (number_is (above z) d) (ExclusiveMinimum z) d  -- V 6.2.5
wrong matches (maximum_of_draft_4 z false) d = unless (number_is (at_most z) d) (Maximum z) d  -- Draft 4, V 5.1.2
wrong matches (maximum_of_draft_4 z true) d = unless (number_is (below z) d) (ExclusiveMaximum z) d
wrong matches (minimum_of_draft_4 z false) d = unless (number_is (at_least z) d) (Minimum z) d  -- Draft 4, V 5.1.3
wrong matches (minimum_of_draft_4 z true) d = unless (number_is (above z) d) (ExclusiveMinimum z) d
wrong matches (max_length n) d = unless (text_is (λ s. nat_le (code_points s) n) d) (MaxLength n) d  -- V 6.3.1
wrong matches (min_length n) d = unless (text_is (λ s. nat_le n (code_points s)) d) (MinLength n) d  -- V 6.3.2
wrong matches (pattern p) d = unless (text_is (λ s. matched matches p s) d) (Pattern p) d  -- V 6.3.3
wrong matches (max_items n) d = unless (list_is (λ ds. nat_le (count_items ds) n) d) (MaxItems n) d  -- V 6.4.1
wrong matches (min_items n) d = unless (list_is (λ ds. nat_le n (count_items ds)) d) (MinItems n) d  -- V 6.4.2
wrong matches unique_items d = unless (list_is all_distinct d) UniqueItems d  -- V 6.4.3
wrong matches (max_properties n) d = unless (map_is (λ ms. nat_le (count_members ms) n) d) (MaxProperties n) d  -- V 6.5.1
wrong matches (min_properties n) d = unless (map_is (λ ms. nat_le n (count_members ms)) d) (MinProperties n) d  -- V 6.5.2
wrong matches (required names) d = missing names d  -- V 6.5.3
wrong matches (dependent_required ps) d = missing_beside ps d  -- V 6.5.4

abbrev pub named : Assertion → List ℕ
named (types ts) = codes "type"
named (constant e) = codes "const"
named (enumeration ds) = codes "enum"
named (multiple_of n) = codes "multipleOf"
named (maximum z) = codes "maximum"
named (exclusive_maximum z) = codes "exclusiveMaximum"
named (minimum z) = codes "minimum"
named (exclusive_minimum z) = codes "exclusiveMinimum"
named (maximum_of_draft_4 z false) = codes "maximum"
named (maximum_of_draft_4 z true) = codes "exclusiveMaximum"
named (minimum_of_draft_4 z false) = codes "minimum"
named (minimum_of_draft_4 z true) = codes "exclusiveMinimum"
named (max_length n) = codes "maxLength"
named (min_length n) = codes "minLength"
named (pattern p) = codes "pattern"
named (max_items n) = codes "maxItems"
named (min_items n) = codes "minItems"
named unique_items = codes "uniqueItems"
named (max_properties n) = codes "maxProperties"
named (min_properties n) = codes "minProperties"
named (required names) = codes "required"
named (dependent_required ps) = codes "dependentRequired"

abbrev pub reference_name : Reference → List ℕ
reference_name static = codes "$ref"
reference_name dynamic = codes "$dynamicRef"
reference_name recursive = codes "$recursiveRef"

-- ---- parts of the rows below

abbrev pub no_notes : List Note
no_notes = []

-- the value of the first member
abbrev pub first_value : Data → List (List ℕ × Data) → Data
first_value d [] = d
first_value d (m ∷ ms) = m.1

abbrev pub needed : {S : Type 0} → Data → Dependency S → List Note
needed d (needs names) = missing names d
needed d (applies s) = []

abbrev pub applied : {S : Type 0} → List ℕ → List ℕ → Dependency S → List (Question S)
applied keyword k (needs names) = []
applied keyword k (applies s) = question s stay (at_name keyword k) ∷ []

abbrev pub consequent : {S : Type 0} → Bool → List ℕ → Option S → List (Bool × Question S)
consequent b keyword None = []
consequent b keyword (Some s) = (b, here keyword s) ∷ []

-- the rule of `contains`: values that are no list are accepted
abbrev pub counting : {S : Type 0} → Data → Option ℕ → Option ℕ → List (Question S) → Rule S
counting null least most qs = every (at (codes "contains")) [] []
counting (boolean b) least most qs = every (at (codes "contains")) [] []
counting (number n) least most qs = every (at (codes "contains")) [] []
counting (string s) least most qs = every (at (codes "contains")) [] []
counting (array ds) least most qs = counted least most qs
counting (object ms) least most qs = every (at (codes "contains")) [] []

-- ---- what a form asks, notes and tells

-- the value by each entry that is a schema and whose name is a member
abbrev pub each_dependency : {S : Type 0} → List ℕ → Data → List (List ℕ × Dependency S) → List (Question S)
each_dependency keyword d ps = flat_map (λ p. if_member (get p.0 d) (λ e. applied keyword p.0 p.1)) ps

-- the questions, by the matches, of a keyword of this name
abbrev pub asked : {S : Type 0} → (List ℕ → List ℕ → Bool) → List ℕ → Data → Form S → List (Question S)
asked matches k d (each_from start s) = each_item k s start (items_from start (items_of d))
asked matches k d (by_index ss) = item_by_item k ss 0 (items_of d)
asked matches k d (by_name ps) = each_declared k d ps
asked matches k d (by_pattern ps) = each_matching matches k d ps
asked matches k d (of_others declared s) = each_member k s (other_members matches declared d)
asked matches k d (of_members s) = each_member k s (members_of d)
asked matches k d (of_names s) = each_name (at k) s (names_of d)
asked matches k d (of_triggered ps) = each_triggered k d ps
asked matches k d (of_dependencies ps) = each_dependency k d ps
asked matches k d (of_branches ss) = each_branch k 0 ss
asked matches k d (of_value schema s) = here k s ∷ []
asked matches k d (of_condition s t e) = here k s ∷ consequents (consequent true (codes "then") t ++ consequent false (codes "else") e)

-- what it notes of the value itself
abbrev pub noted : {S : Type 0} → Form S → Data → List Note
noted (of_dependencies ps) d = flat_map (λ p. if_member (get p.0 d) (λ e. needed d p.1)) ps
noted form d = []

-- the kind of the one fault that speaks for all that it asks, and the value at fault
abbrev pub kind_in : {S : Type 0} → (List ℕ → List ℕ → Bool) → Form S → Data → Kind
kind_in matches (each_from start s) d = AdditionalItems
kind_in matches (of_others declared s) d = AdditionalProperties (map (λ m. m.0) (other_members matches declared d))
kind_in matches (of_value schema s) d = Not schema
kind_in matches form d = FalseSchema

abbrev pub value_in : {S : Type 0} → Form S → Data → Data
value_in (of_members s) d = first_value d (members_of d)
value_in form d = d

-- ---- the rule of each keyword at a value: `items`, `prefixItems` and `additionalItems` (C 10.3.1.1, 10.3.1.2; 2019-09, C 9.3.1),
-- `contains` (C 10.3.1.3, V 6.4.4, 6.4.5), `properties`, `patternProperties`, `additionalProperties`, `propertyNames` (C 10.3.2.1 to 10.3.2.4),
-- `dependentSchemas` (C 10.2.2.4), `dependencies` (Draft 7, V 6.5.7), `allOf`, `anyOf`, `oneOf`, `not` (C 10.2.1.1 to 10.2.1.4),
-- `if`, `then`, `else` (C 10.2.2.1 to 10.2.2.3), references (C 8.2.3), the schema `false` (C 4.3.2)

abbrev pub rule : {S : Type 0} → (List ℕ → List ℕ → Bool) → Data → Shape S → Rule S
rule matches d never = every [] (record { kind = FalseSchema; value = d } ∷ []) []
rule matches d (asserts a) = every (at (named a)) (wrong matches a d) []
rule matches d (asks_every k form) = every (at k) (noted form d) (asked matches k d form)
rule matches d (asks_together k form) = together (at k) (record { kind = kind_in matches form d; value = value_in form d }) (asked matches k d form)
rule matches d (asks_names k s) = each_named (at k) s (names_of d)
rule matches d (asks_some k form) = some_branch (at k) (asked matches k d form)
rule matches d (asks_one k form) = one_branch (at k) (asked matches k d form)
rule matches d (asks_no k schema s) = refusal (at k) schema (here k s)
rule matches d (contains s least most) = counting d least most (each_item (codes "contains") s 0 (items_of d))
rule matches d (condition s t e) = conditional (here (codes "if") s) (consequent true (codes "then") t ++ consequent false (codes "else") e)
rule matches d (reference r s) = every (at (reference_name r)) [] (record { site = s; step = stay; added = at (reference_name r); follows = true } ∷ [])
