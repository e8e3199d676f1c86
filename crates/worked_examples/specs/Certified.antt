-- Certificates: pairs of an instance path and a road that obliged steps spell down to a keyword that refuses, and pairs that none spells.
use Prim.Native.String.{String as Quoted}
use Rattle.std.specs.Prelude.{List, [], ◌∷◌, pos, None, Some, codes}
use Rattle.serde_json.specs.Data.{Data}
use Rattle.json_values.specs.Kinds.{array_type, string_type, integer_type}
use Rattle.schema_meaning.specs.Places.{whole}
use Rattle.schema_meaning.specs.Keywords.{asserts, types, enumeration, minimum, multiple_of, min_items, never, static, items, contains, properties, no_additional_properties, no_properties, property_names, any_of, negation, condition, reference}
use Rattle.schema_meaning.specs.Certificates.{Certificate}
use Rattle.worked_examples.specs.Forms.{natural, text, list_of, object_of, items_in, Site, root, below, declared, reading_of, pointer}

pub record Place : Type 0 where
  pub sites : List Site
  pub value : Data
  pub instance : Quoted
  pub road : Quoted

abbrev pub IsCertified : Place → Type 0
IsCertified e = Certificate (reading_of e.sites []) 0 (whole e.value) (pointer e.instance) (pointer e.road)

abbrev pub IsNotCertified : Place → Type 0
IsNotCertified e = IsCertified e → ⊥

abbrev pub place : List Site → Data → Quoted → Quoted → Place
place sites d instance road = record { sites = sites; value = d; instance = instance; road = road }

-- http://a.test/root.json = {"$id":"http://a.test/root.json","type":"array","minItems":2,"items":{"$ref":"leaf.json"}}
-- http://a.test/leaf.json = {"$id":"http://a.test/leaf.json","type":"string"}
abbrev pub two_documents : List Site
two_documents =
    root (items 0 1 ∷ asserts (min_items 2) ∷ asserts (types (array_type ∷ [])) ∷ [])
    ∷ below "/items" (reference static 2 ∷ [])
    ∷ root (asserts (types (string_type ∷ [])) ∷ []) ∷ []

-- {"anyOf":[{"type":"string"}]}
abbrev pub lone_branch : List Site
lone_branch = root (any_of (1 ∷ []) ∷ []) ∷ below "/anyOf/0" (asserts (types (string_type ∷ [])) ∷ []) ∷ []

-- {"anyOf":[{"type":"string"},{"type":"integer"}]}
abbrev pub two_branches : List Site
two_branches =
    root (any_of (1 ∷ 2 ∷ []) ∷ [])
    ∷ below "/anyOf/0" (asserts (types (string_type ∷ [])) ∷ [])
    ∷ below "/anyOf/1" (asserts (types (integer_type ∷ [])) ∷ []) ∷ []

-- {"not":{"type":"integer"}}
abbrev pub negated : List Site
negated =
    root (negation (object_of (("type", text "integer") ∷ [])) 1 ∷ [])
    ∷ below "/not" (asserts (types (integer_type ∷ [])) ∷ []) ∷ []

-- {"if":{"minimum":0},"then":{"multipleOf":2}}
abbrev pub conditioned : List Site
conditioned =
    root (condition 1 (Some 2) None ∷ [])
    ∷ below "/if" (asserts (minimum (pos 0)) ∷ [])
    ∷ below "/then" (asserts (multiple_of 2) ∷ []) ∷ []

-- {"contains":{"type":"integer"},"maxContains":1}
abbrev pub at_most_one : List Site
at_most_one = root (contains 1 None (Some 1) ∷ []) ∷ below "/contains" (asserts (types (integer_type ∷ [])) ∷ []) ∷ []

-- {"additionalProperties":false}
abbrev pub no_members : List Site
no_members = root (no_properties 1 ∷ []) ∷ below "/additionalProperties" (never ∷ []) ∷ []

-- {"properties":{"a":true},"additionalProperties":false}
abbrev pub no_others : List Site
no_others =
    root (no_additional_properties (declared (codes "a" ∷ []) []) 1 ∷ properties ((codes "a", 2) ∷ []) ∷ [])
    ∷ below "/additionalProperties" (never ∷ [])
    ∷ below "/properties/a" [] ∷ []

-- {"propertyNames":{"$ref":"#/$defs/s"},"$defs":{"s":{"enum":["ab"]}}}
abbrev pub names_by_reference : List Site
names_by_reference =
    root (property_names 1 ∷ [])
    ∷ below "/propertyNames" (reference static 2 ∷ [])
    ∷ below "/$defs/s" (asserts (enumeration (items_in (text "ab" ∷ []))) ∷ []) ∷ []

abbrev pub certified_examples : List Place
certified_examples =
    -- [1]: /minItems; /items/$ref/type at /0; /items, which refuses the list; /items/$ref, which refuses the item
    place two_documents (list_of (natural 1 ∷ [])) "" "/minItems"
    ∷ place two_documents (list_of (natural 1 ∷ [])) "/0" "/items/$ref/type"
    ∷ place two_documents (list_of (natural 1 ∷ [])) "" "/items"
    ∷ place two_documents (list_of (natural 1 ∷ [])) "/0" "/items/$ref"
    -- 1: the only branch is an obliged step, and the keyword refuses
    ∷ place lone_branch (natural 1) "" "/anyOf/0/type"
    ∷ place lone_branch (natural 1) "" "/anyOf"
    -- 1
    ∷ place negated (natural 1) "" "/not"
    -- 3: `then` where `if` accepts, and the whole refuses under `then`
    ∷ place conditioned (natural 3) "" "/then/multipleOf"
    ∷ place conditioned (natural 3) "" "/then"
    -- ["a"]: the group refuses under one name
    ∷ place at_most_one (list_of (text "a" ∷ [])) "" "/maxContains"
    -- {"a":1}: the object, and the member by the schema `false`
    ∷ place no_members (object_of (("a", natural 1) ∷ [])) "" "/additionalProperties"
    ∷ place no_members (object_of (("a", natural 1) ∷ [])) "/a" "/additionalProperties"
    -- {"a":1,"b":1}
    ∷ place no_others (object_of (("a", natural 1) ∷ ("b", natural 1) ∷ [])) "/b" "/additionalProperties"
    -- {"a":1}: a name's place has the object's path
    ∷ place names_by_reference (object_of (("a", natural 1) ∷ [])) "" "/propertyNames/$ref/enum"
    ∷ []

abbrev pub not_certified_examples : List Place
not_certified_examples =
    -- [1]: the list is an array, and no keyword stands at the end of this road
    place two_documents (list_of (natural 1 ∷ [])) "" "/type"
    ∷ place two_documents (list_of (natural 1 ∷ [])) "/0" "/items"
    -- 1: one of several branches is no obliged step
    ∷ place two_branches (natural 1) "" "/anyOf/0/type"
    -- 1: nor is what `not` asks
    ∷ place negated (natural 1) "" "/not/type"
    -- 3: `if` refuses nothing
    ∷ place conditioned (natural 3) "" "/if"
    -- ["a"]
    ∷ place at_most_one (list_of (text "a" ∷ [])) "" "/contains"
    -- {"a":1,"b":1}: a declared member
    ∷ place no_others (object_of (("a", natural 1) ∷ ("b", natural 1) ∷ [])) "/a" "/additionalProperties"
    ∷ []
