-- Which questions a keyword asks of a value, whatever is answered, and which of them are obliged steps by the answers:
-- those whose refusal is the keyword's. `not`, `if`, `contains` and one of several branches are never one.
use Prim.Native.String.{String as Quoted}
use Rattle.std.specs.Prelude.{◌≡◌, ℕ, List, [], ◌∷◌, Bool, true, false, Some, None, codes}
use Rattle.serde_json.specs.Data.{Data, null}
use Rattle.json_values.specs.Patterns.{reads_as}
use Rattle.schema_meaning.specs.Places.{Step, stay, to_item, to_member, to_name}
use Rattle.schema_meaning.specs.Questions.{Question}
use Rattle.schema_meaning.specs.Rules.{asks, obliged}
use Rattle.schema_meaning.specs.Keywords.{Shape, static, needs, applies, items, item_list, prefix_items, additional_items, no_additional_items, contains, properties, pattern_properties, additional_properties, no_additional_properties, no_properties, property_names, no_property_names, dependent_schemas, dependencies, all_of, any_of, one_of, negation, condition, reference, rule}
use Rattle.worked_examples.specs.Forms.{natural, list_of, object_of, declared, pointer}

-- a keyword, a value, the answers to the questions in their order, the questions, and those that are obliged
pub record StepExample : Type 0 where
  pub keyword : Shape ℕ
  pub value : Data
  pub answers : List Bool
  pub asked : List (Question ℕ)
  pub steps : List (Question ℕ)

abbrev pub StepsHold : StepExample → Type 0
StepsHold e =
    (asks (rule (reads_as []) e.value e.keyword) ≡ e.asked)
    × (obliged (rule (reads_as []) e.value e.keyword) e.answers ≡ e.steps)

-- whether the schema at a site accepts what the step leads to, and what that adds to the road
abbrev pub ask : ℕ → Step → Quoted → Question ℕ
ask site step added = record { site = site; step = step; added = pointer added; follows = false }

-- the same of a reference
abbrev pub follow : ℕ → Step → Quoted → Question ℕ
follow site step added = record { site = site; step = step; added = pointer added; follows = true }

abbrev pub some_obliged : Shape ℕ → Data → List Bool → List (Question ℕ) → List (Question ℕ) → StepExample
some_obliged keyword d answers qs steps = record { keyword = keyword; value = d; answers = answers; asked = qs; steps = steps }

abbrev pub all_obliged : Shape ℕ → Data → List Bool → List (Question ℕ) → StepExample
all_obliged keyword d answers qs = some_obliged keyword d answers qs qs

abbrev pub none_obliged : Shape ℕ → Data → List Bool → List (Question ℕ) → StepExample
none_obliged keyword d answers qs = some_obliged keyword d answers qs []

abbrev pub place_steps_examples : List StepExample
place_steps_examples =
    -- {"items":S}: [1,2]
    all_obliged (items 0 1) (list_of (natural 1 ∷ natural 2 ∷ [])) (true ∷ false ∷ []) (ask 1 (to_item 0 (natural 1)) "/items" ∷ ask 1 (to_item 1 (natural 2)) "/items" ∷ [])
    -- {"prefixItems":[S],"items":T}: [1,2]
    ∷ all_obliged (items 1 2) (list_of (natural 1 ∷ natural 2 ∷ [])) (true ∷ []) (ask 2 (to_item 1 (natural 2)) "/items" ∷ [])
    -- {"prefixItems":[S,T]}: [1]
    ∷ all_obliged (prefix_items (1 ∷ 2 ∷ [])) (list_of (natural 1 ∷ [])) (false ∷ []) (ask 1 (to_item 0 (natural 1)) "/prefixItems/0" ∷ [])
    -- 2019-09 {"items":[S]}: [1,2]
    ∷ all_obliged (item_list (1 ∷ [])) (list_of (natural 1 ∷ natural 2 ∷ [])) (false ∷ []) (ask 1 (to_item 0 (natural 1)) "/items/0" ∷ [])
    -- 2019-09 {"items":[S],"additionalItems":T}: [1,2]
    ∷ all_obliged (additional_items 1 2) (list_of (natural 1 ∷ natural 2 ∷ [])) (false ∷ []) (ask 2 (to_item 1 (natural 2)) "/additionalItems" ∷ [])
    -- 2019-09 {"items":[S],"additionalItems":false}: [1,2]
    ∷ all_obliged (no_additional_items 1 2) (list_of (natural 1 ∷ natural 2 ∷ [])) (false ∷ []) (ask 2 (to_item 1 (natural 2)) "/additionalItems" ∷ [])
    -- {"properties":{"a":S,"b":T}}: {"a":1,"c":2}
    ∷ all_obliged (properties ((codes "a", 1) ∷ (codes "b", 2) ∷ [])) (object_of (("a", natural 1) ∷ ("c", natural 2) ∷ [])) (false ∷ []) (ask 1 (to_member (codes "a") (natural 1)) "/properties/a" ∷ [])
    -- {"patternProperties":{"^x-":S}}: {"a":1,"x-b":2}
    ∷ all_obliged (pattern_properties ((codes "^x-", 1) ∷ [])) (object_of (("a", natural 1) ∷ ("x-b", natural 2) ∷ [])) (false ∷ []) (ask 1 (to_member (codes "x-b") (natural 2)) "/patternProperties/^x-" ∷ [])
    -- {"properties":{"a":S},"additionalProperties":T}: {"a":1,"b":2}
    ∷ all_obliged (additional_properties (declared (codes "a" ∷ []) []) 2) (object_of (("a", natural 1) ∷ ("b", natural 2) ∷ [])) (false ∷ []) (ask 2 (to_member (codes "b") (natural 2)) "/additionalProperties" ∷ [])
    -- {"properties":{"a":S},"additionalProperties":false}: {"a":1,"b":2}
    ∷ all_obliged (no_additional_properties (declared (codes "a" ∷ []) []) 2) (object_of (("a", natural 1) ∷ ("b", natural 2) ∷ [])) (false ∷ []) (ask 2 (to_member (codes "b") (natural 2)) "/additionalProperties" ∷ [])
    -- {"additionalProperties":false}: {"a":1}
    ∷ all_obliged (no_properties 1) (object_of (("a", natural 1) ∷ [])) (false ∷ []) (ask 1 (to_member (codes "a") (natural 1)) "/additionalProperties" ∷ [])
    -- {"propertyNames":S}: {"a":1,"b":2}
    ∷ all_obliged (property_names 1) (object_of (("a", natural 1) ∷ ("b", natural 2) ∷ [])) (true ∷ false ∷ []) (ask 1 (to_name (codes "a")) "/propertyNames" ∷ ask 1 (to_name (codes "b")) "/propertyNames" ∷ [])
    -- {"propertyNames":false}: {"a":1}
    ∷ all_obliged (no_property_names 1) (object_of (("a", natural 1) ∷ [])) (false ∷ []) (ask 1 (to_name (codes "a")) "/propertyNames" ∷ [])
    ∷ []

abbrev pub branch_steps_examples : List StepExample
branch_steps_examples =
    -- {"dependentSchemas":{"a":S,"b":T}}: {"a":1}
    all_obliged (dependent_schemas ((codes "a", 1) ∷ (codes "b", 2) ∷ [])) (object_of (("a", natural 1) ∷ [])) (false ∷ []) (ask 1 stay "/dependentSchemas/a" ∷ [])
    -- Draft 7 {"dependencies":{"a":S,"b":T,"c":["d"]}}: {"a":1,"c":2}
    ∷ all_obliged (dependencies ((codes "a", applies 1) ∷ (codes "b", applies 2) ∷ (codes "c", needs (codes "d" ∷ [])) ∷ [])) (object_of (("a", natural 1) ∷ ("c", natural 2) ∷ [])) (false ∷ []) (ask 1 stay "/dependencies/a" ∷ [])
    -- {"allOf":[S,T]}: 1
    ∷ all_obliged (all_of (1 ∷ 2 ∷ [])) (natural 1) (true ∷ false ∷ []) (ask 1 stay "/allOf/0" ∷ ask 2 stay "/allOf/1" ∷ [])
    -- {"anyOf":[S]}: 1
    ∷ all_obliged (any_of (1 ∷ [])) (natural 1) (false ∷ []) (ask 1 stay "/anyOf/0" ∷ [])
    -- {"anyOf":[S,T]}: 1
    ∷ none_obliged (any_of (1 ∷ 2 ∷ [])) (natural 1) (false ∷ false ∷ []) (ask 1 stay "/anyOf/0" ∷ ask 2 stay "/anyOf/1" ∷ [])
    -- {"oneOf":[S]}: 1
    ∷ all_obliged (one_of (1 ∷ [])) (natural 1) (false ∷ []) (ask 1 stay "/oneOf/0" ∷ [])
    -- {"oneOf":[S,T]}: 1
    ∷ none_obliged (one_of (1 ∷ 2 ∷ [])) (natural 1) (false ∷ false ∷ []) (ask 1 stay "/oneOf/0" ∷ ask 2 stay "/oneOf/1" ∷ [])
    -- {"not":S}: 1
    ∷ none_obliged (negation null 1) (natural 1) (true ∷ []) (ask 1 stay "/not" ∷ [])
    -- {"contains":S}: [1]
    ∷ none_obliged (contains 1 None None) (list_of (natural 1 ∷ [])) (false ∷ []) (ask 1 (to_item 0 (natural 1)) "/contains" ∷ [])
    -- {"if":S,"then":T,"else":U}, where `if` accepts: 1
    ∷ some_obliged (condition 1 (Some 2) (Some 3)) (natural 1) (true ∷ false ∷ false ∷ []) (ask 1 stay "/if" ∷ ask 2 stay "/then" ∷ ask 3 stay "/else" ∷ []) (ask 2 stay "/then" ∷ [])
    -- {"if":S,"then":T,"else":U}, where `if` refuses: 1
    ∷ some_obliged (condition 1 (Some 2) (Some 3)) (natural 1) (false ∷ false ∷ false ∷ []) (ask 1 stay "/if" ∷ ask 2 stay "/then" ∷ ask 3 stay "/else" ∷ []) (ask 3 stay "/else" ∷ [])
    -- {"if":S,"then":T}, where `if` refuses: 1
    ∷ none_obliged (condition 1 (Some 2) None) (natural 1) (false ∷ false ∷ []) (ask 1 stay "/if" ∷ ask 2 stay "/then" ∷ [])
    -- {"$ref":..}: 1
    ∷ all_obliged (reference static 1) (natural 1) (false ∷ []) (follow 1 stay "/$ref" ∷ [])
    -- {"items":S}: {"a":1}
    ∷ none_obliged (items 0 1) (object_of (("a", natural 1) ∷ [])) [] []
    ∷ []
