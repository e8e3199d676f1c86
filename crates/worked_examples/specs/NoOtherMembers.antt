-- `additionalProperties` that is `false` (Core 10.3.2.3), alone and beside what declares members.
use Rattle.std.specs.Prelude.{List, [], ◌∷◌, pos, codes}
use Rattle.json_values.specs.Kinds.{string_type, integer_type}
use Rattle.schema_meaning.specs.Faults.{AdditionalProperties, FalseSchema, Maximum, Minimum, Required, Types}
use Rattle.schema_meaning.specs.Keywords.{asserts, types, maximum, minimum, required, never, properties, pattern_properties, no_additional_properties, no_properties}
use Rattle.worked_examples.specs.Forms.{natural, list_of, object_of, root, below, declared, wrong_at, Example, over, matching, accepted, refused}

abbrev pub no_other_members_examples : List Example
no_other_members_examples =
    -- {"properties":{"a":{"type":"integer"}},"additionalProperties":false,"required":["a"]}
    record {
      schema = over (root (no_additional_properties (declared (codes "a" ∷ []) []) 1 ∷ properties ((codes "a", 2) ∷ []) ∷ asserts (required (codes "a" ∷ [])) ∷ [])
          ∷ below "/additionalProperties" (never ∷ [])
          ∷ below "/properties/a" (asserts (types (integer_type ∷ [])) ∷ []) ∷ []);
      cases =
          -- {"a":1}
          accepted (object_of (("a", natural 1) ∷ []))
          -- {"b":1}
          ∷ refused (object_of (("b", natural 1) ∷ [])) (wrong_at (AdditionalProperties (codes "b" ∷ [])) (object_of (("b", natural 1) ∷ [])) "" "/additionalProperties"
          ∷ wrong_at (Required (codes "a")) (object_of (("b", natural 1) ∷ [])) "" "/required" ∷ []) ∷ [];
    }
    -- one fault, with each unexpected name
    -- {"properties":{"a":{}},"additionalProperties":false}
    ∷ record {
      schema = over (root (no_additional_properties (declared (codes "a" ∷ []) []) 1 ∷ properties ((codes "a", 2) ∷ []) ∷ [])
          ∷ below "/additionalProperties" (never ∷ [])
          ∷ below "/properties/a" [] ∷ []);
      cases =
          -- {"a":1,"b":1,"c":1}
          refused (object_of (("a", natural 1) ∷ ("b", natural 1) ∷ ("c", natural 1) ∷ [])) (wrong_at (AdditionalProperties (codes "b" ∷ codes "c" ∷ [])) (object_of (("a", natural 1) ∷ ("b", natural 1) ∷ ("c", natural 1) ∷ [])) "" "/additionalProperties" ∷ []) ∷ [];
    }
    -- {"patternProperties":{"^x-":{}},"additionalProperties":false}
    ∷ record {
      schema = over (root (no_additional_properties (declared [] (codes "^x-" ∷ [])) 1 ∷ pattern_properties ((codes "^x-", 2) ∷ []) ∷ [])
          ∷ below "/additionalProperties" (never ∷ [])
          ∷ below "/patternProperties/^x-" [] ∷ []);
      cases =
          -- {"x-a":1}
          accepted (object_of (("x-a", natural 1) ∷ []))
          -- {"b":2,"x-a":1}
          ∷ refused (object_of (("b", natural 2) ∷ ("x-a", natural 1) ∷ [])) (wrong_at (AdditionalProperties (codes "b" ∷ [])) (object_of (("b", natural 2) ∷ ("x-a", natural 1) ∷ [])) "" "/additionalProperties" ∷ []) ∷ [];
    }
    -- alone: one fault of the object, with the value of its first member
    -- {"additionalProperties":false}
    ∷ record {
      schema = over (root (no_properties 1 ∷ [])
          ∷ below "/additionalProperties" (never ∷ []) ∷ []);
      cases = accepted (object_of [])
          -- {"a":1,"b":2}
          ∷ refused (object_of (("a", natural 1) ∷ ("b", natural 2) ∷ [])) (wrong_at FalseSchema (natural 1) "" "/additionalProperties" ∷ [])
          -- [1]
          ∷ accepted (list_of (natural 1 ∷ [])) ∷ [];
    }
    -- spam$ matches "spam", as it is given
    -- {"additionalProperties":false,"properties":{"foo":{"type":"string"}},"patternProperties":{"^bar":{"minimum":5},"spam$":{"maximum":10}}}
    ∷ record {
      schema = matching ((codes "spam$", codes "spam") ∷ []) (root (no_additional_properties (declared (codes "foo" ∷ []) (codes "^bar" ∷ codes "spam$" ∷ [])) 1 ∷ pattern_properties ((codes "^bar", 2) ∷ (codes "spam$", 3) ∷ []) ∷ properties ((codes "foo", 4) ∷ []) ∷ [])
          ∷ below "/additionalProperties" (never ∷ [])
          ∷ below "/patternProperties/^bar" (asserts (minimum (pos 5)) ∷ [])
          ∷ below "/patternProperties/spam$" (asserts (maximum (pos 10)) ∷ [])
          ∷ below "/properties/foo" (asserts (types (string_type ∷ [])) ∷ []) ∷ []);
      cases =
          -- {"bar":4,"faz":1,"foo":3,"spam":11}
          refused (object_of (("bar", natural 4) ∷ ("faz", natural 1) ∷ ("foo", natural 3) ∷ ("spam", natural 11) ∷ [])) (wrong_at (AdditionalProperties (codes "faz" ∷ [])) (object_of (("bar", natural 4) ∷ ("faz", natural 1) ∷ ("foo", natural 3) ∷ ("spam", natural 11) ∷ [])) "" "/additionalProperties"
          ∷ wrong_at (Minimum (pos 5)) (natural 4) "/bar" "/patternProperties/^bar/minimum"
          ∷ wrong_at (Maximum (pos 10)) (natural 11) "/spam" "/patternProperties/spam$/maximum"
          ∷ wrong_at (Types (string_type ∷ [])) (natural 3) "/foo" "/properties/foo/type" ∷ []) ∷ [];
    }
    -- `required` beside `properties`
    -- {"properties":{"a":{"type":"string"}},"required":["a","b"]}
    ∷ record {
      schema = over (root (properties ((codes "a", 1) ∷ []) ∷ asserts (required (codes "a" ∷ codes "b" ∷ [])) ∷ [])
          ∷ below "/properties/a" (asserts (types (string_type ∷ [])) ∷ []) ∷ []);
      cases =
          -- {"a":1}
          refused (object_of (("a", natural 1) ∷ [])) (wrong_at (Types (string_type ∷ [])) (natural 1) "/a" "/properties/a/type"
          ∷ wrong_at (Required (codes "b")) (object_of (("a", natural 1) ∷ [])) "" "/required" ∷ []) ∷ [];
    }
    ∷ []
