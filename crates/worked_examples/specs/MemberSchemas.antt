-- Schemas for members: `properties`, `patternProperties`, `additionalProperties` (Core 10.3.2.1 to 10.3.2.3).
use Rattle.std.specs.Prelude.{List, [], ◌∷◌, pos, codes}
use Rattle.json_values.specs.Kinds.{string_type, integer_type}
use Rattle.schema_meaning.specs.Faults.{Minimum, Types}
use Rattle.schema_meaning.specs.Keywords.{asserts, types, minimum, never, properties, pattern_properties, additional_properties}
use Rattle.worked_examples.specs.Forms.{natural, text, list_of, object_of, root, below, declared, wrong_at, Example, over, accepted, refused}

abbrev pub member_schemas_examples : List Example
member_schemas_examples =
    -- Core 10.3.2.1
    -- {"properties":{"a/b":{"type":"string"}}}
    record {
      schema = over (root (properties ((codes "a/b", 1) ∷ []) ∷ [])
          ∷ below "/properties/a~1b" (asserts (types (string_type ∷ [])) ∷ []) ∷ []);
      cases =
          -- {"a/b":"x","c":1}
          accepted (object_of (("a/b", text "x") ∷ ("c", natural 1) ∷ []))
          -- {"a/b":1}
          ∷ refused (object_of (("a/b", natural 1) ∷ [])) (wrong_at (Types (string_type ∷ [])) (natural 1) "/a~1b" "/properties/a~1b/type" ∷ []) ∷ [];
    }
    -- {"properties":{"a":false}}
    ∷ record {
      schema = over (root (properties ((codes "a", 1) ∷ []) ∷ [])
          ∷ below "/properties/a" (never ∷ []) ∷ []);
      cases = accepted (object_of [])
          -- ["a"]
          ∷ accepted (list_of (text "a" ∷ [])) ∷ [];
    }
    -- Core 10.3.2.2
    -- {"patternProperties":{"^x-":{"type":"string"}}}
    ∷ record {
      schema = over (root (pattern_properties ((codes "^x-", 1) ∷ []) ∷ [])
          ∷ below "/patternProperties/^x-" (asserts (types (string_type ∷ [])) ∷ []) ∷ []);
      cases =
          -- {"ax-":1,"x-a":"b"}
          accepted (object_of (("ax-", natural 1) ∷ ("x-a", text "b") ∷ []))
          -- {"x-a":1,"x-b":2}
          ∷ refused (object_of (("x-a", natural 1) ∷ ("x-b", natural 2) ∷ [])) (wrong_at (Types (string_type ∷ [])) (natural 1) "/x-a" "/patternProperties/^x-/type"
          ∷ wrong_at (Types (string_type ∷ [])) (natural 2) "/x-b" "/patternProperties/^x-/type" ∷ []) ∷ [];
    }
    -- each pattern that matches
    -- {"patternProperties":{"^a":{"type":"string"},"^ab":{"minimum":2}}}
    ∷ record {
      schema = over (root (pattern_properties ((codes "^a", 1) ∷ (codes "^ab", 2) ∷ []) ∷ [])
          ∷ below "/patternProperties/^a" (asserts (types (string_type ∷ [])) ∷ [])
          ∷ below "/patternProperties/^ab" (asserts (minimum (pos 2)) ∷ []) ∷ []);
      cases =
          -- {"ab":1}
          refused (object_of (("ab", natural 1) ∷ [])) (wrong_at (Types (string_type ∷ [])) (natural 1) "/ab" "/patternProperties/^a/type"
          ∷ wrong_at (Minimum (pos 2)) (natural 1) "/ab" "/patternProperties/^ab/minimum" ∷ []) ∷ [];
    }
    -- Core 10.3.2.3
    -- {"properties":{"a":{"type":"integer"}},"additionalProperties":{"type":"string"}}
    ∷ record {
      schema = over (root (additional_properties (declared (codes "a" ∷ []) []) 1 ∷ properties ((codes "a", 2) ∷ []) ∷ [])
          ∷ below "/additionalProperties" (asserts (types (string_type ∷ [])) ∷ [])
          ∷ below "/properties/a" (asserts (types (integer_type ∷ [])) ∷ []) ∷ []);
      cases =
          -- {"a":1,"b":"x"}
          accepted (object_of (("a", natural 1) ∷ ("b", text "x") ∷ []))
          -- {"a":1,"b":2}
          ∷ refused (object_of (("a", natural 1) ∷ ("b", natural 2) ∷ [])) (wrong_at (Types (string_type ∷ [])) (natural 2) "/b" "/additionalProperties/type" ∷ []) ∷ [];
    }
    -- {"additionalProperties":{"type":"string"}}
    ∷ record {
      schema = over (root (additional_properties (declared [] []) 1 ∷ [])
          ∷ below "/additionalProperties" (asserts (types (string_type ∷ [])) ∷ []) ∷ []);
      cases =
          -- {"a":1}
          refused (object_of (("a", natural 1) ∷ [])) (wrong_at (Types (string_type ∷ [])) (natural 1) "/a" "/additionalProperties/type" ∷ []) ∷ [];
    }
    -- {"patternProperties":{"^x-":{}},"additionalProperties":{"type":"string"}}
    ∷ record {
      schema = over (root (additional_properties (declared [] (codes "^x-" ∷ [])) 1 ∷ pattern_properties ((codes "^x-", 2) ∷ []) ∷ [])
          ∷ below "/additionalProperties" (asserts (types (string_type ∷ [])) ∷ [])
          ∷ below "/patternProperties/^x-" [] ∷ []);
      cases =
          -- {"x-a":1}
          accepted (object_of (("x-a", natural 1) ∷ [])) ∷ [];
    }
    ∷ []
