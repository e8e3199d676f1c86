-- `propertyNames` (Core 10.3.2.4): the fault is the object's, at the object's path, and carries the fault of the name.
use Rattle.std.specs.Prelude.{List, [], ◌∷◌, codes}
use Rattle.json_values.specs.Kinds.{string_type}
use Rattle.schema_meaning.specs.Faults.{Enumeration, FalseSchema, MinLength, Pattern, PropertyNames}
use Rattle.schema_meaning.specs.Keywords.{asserts, types, enumeration, min_length, pattern, static, never, properties, property_names, no_property_names, reference}
use Rattle.worked_examples.specs.Forms.{natural, text, list_of, object_of, items_in, root, below, wrong_at, wrong_by, Example, over, accepted, refused}

abbrev pub member_names_examples : List Example
member_names_examples =
    -- {"propertyNames":{"minLength":2}}
    record {
      schema = over (root (property_names 1 ∷ [])
          ∷ below "/propertyNames" (asserts (min_length 2) ∷ []) ∷ []);
      cases =
          -- {"ab":1}
          accepted (object_of (("ab", natural 1) ∷ []))
          -- {"a":1,"b":2}: one for each fault of a name
          ∷ refused (object_of (("a", natural 1) ∷ ("b", natural 2) ∷ [])) (wrong_at (PropertyNames (wrong_at (MinLength 2) (text "a") "" "/propertyNames/minLength")) (object_of (("a", natural 1) ∷ ("b", natural 2) ∷ [])) "" "/propertyNames/minLength"
          ∷ wrong_at (PropertyNames (wrong_at (MinLength 2) (text "b") "" "/propertyNames/minLength")) (object_of (("a", natural 1) ∷ ("b", natural 2) ∷ [])) "" "/propertyNames/minLength" ∷ [])
          -- ["a"]
          ∷ accepted (list_of (text "a" ∷ [])) ∷ [];
    }
    -- {"properties":{"o":{"propertyNames":{"minLength":2}}}}
    ∷ record {
      schema = over (root (properties ((codes "o", 1) ∷ []) ∷ [])
          ∷ below "/properties/o" (property_names 2 ∷ [])
          ∷ below "/properties/o/propertyNames" (asserts (min_length 2) ∷ []) ∷ []);
      cases =
          -- {"o":{"a":1}}
          refused (object_of (("o", object_of (("a", natural 1) ∷ [])) ∷ [])) (wrong_at (PropertyNames (wrong_at (MinLength 2) (text "a") "/o" "/properties/o/propertyNames/minLength")) (object_of (("a", natural 1) ∷ [])) "/o" "/properties/o/propertyNames/minLength" ∷ []) ∷ [];
    }
    -- by a reference
    -- {"$defs":{"s":{"minLength":2}},"propertyNames":{"$ref":"#/$defs/s"}}
    ∷ record {
      schema = over (root (property_names 1 ∷ [])
          ∷ below "/propertyNames" (reference static 2 ∷ [])
          ∷ below "/$defs/s" (asserts (min_length 2) ∷ []) ∷ []);
      cases =
          -- {"ab":1}
          accepted (object_of (("ab", natural 1) ∷ []))
          -- {"a":1}
          ∷ refused (object_of (("a", natural 1) ∷ [])) (wrong_by (PropertyNames (wrong_by (MinLength 2) (text "a") "" "/$defs/s/minLength" "/propertyNames/$ref/minLength")) (object_of (("a", natural 1) ∷ [])) "" "/$defs/s/minLength" "/propertyNames/$ref/minLength" ∷ []) ∷ [];
    }
    -- {"$defs":{"s":{"enum":["ab"]}},"propertyNames":{"$ref":"#/$defs/s"}}
    ∷ record {
      schema = over (root (property_names 1 ∷ [])
          ∷ below "/propertyNames" (reference static 2 ∷ [])
          ∷ below "/$defs/s" (asserts (enumeration (items_in (text "ab" ∷ []))) ∷ []) ∷ []);
      cases =
          -- {"a":1}
          refused (object_of (("a", natural 1) ∷ [])) (wrong_by (PropertyNames (wrong_by (Enumeration (items_in (text "ab" ∷ []))) (text "a") "" "/$defs/s/enum" "/propertyNames/$ref/enum")) (object_of (("a", natural 1) ∷ [])) "" "/$defs/s/enum" "/propertyNames/$ref/enum" ∷ []) ∷ [];
    }
    -- {"propertyNames":{"pattern":"^x-"}}
    ∷ record {
      schema = over (root (property_names 1 ∷ [])
          ∷ below "/propertyNames" (asserts (pattern (codes "^x-")) ∷ []) ∷ []);
      cases =
          -- {"x-a":1}
          accepted (object_of (("x-a", natural 1) ∷ []))
          -- {"a":1,"x-a":1}
          ∷ refused (object_of (("a", natural 1) ∷ ("x-a", natural 1) ∷ [])) (wrong_at (PropertyNames (wrong_at (Pattern (codes "^x-")) (text "a") "" "/propertyNames/pattern")) (object_of (("a", natural 1) ∷ ("x-a", natural 1) ∷ [])) "" "/propertyNames/pattern" ∷ []) ∷ [];
    }
    -- a name is a text
    -- {"propertyNames":{"type":"string"}}
    ∷ record {
      schema = over (root (property_names 1 ∷ [])
          ∷ below "/propertyNames" (asserts (types (string_type ∷ [])) ∷ []) ∷ []);
      cases =
          -- {"a":1}
          accepted (object_of (("a", natural 1) ∷ [])) ∷ [];
    }
    -- `false`: one fault of the object
    -- {"propertyNames":false}
    ∷ record {
      schema = over (root (no_property_names 1 ∷ [])
          ∷ below "/propertyNames" (never ∷ []) ∷ []);
      cases = accepted (object_of [])
          -- {"a":1,"b":2}
          ∷ refused (object_of (("a", natural 1) ∷ ("b", natural 2) ∷ [])) (wrong_at FalseSchema (object_of (("a", natural 1) ∷ ("b", natural 2) ∷ [])) "" "/propertyNames" ∷ []) ∷ [];
    }
    ∷ []
