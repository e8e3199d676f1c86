-- `dependentSchemas` (Core 10.2.2.4), and `dependencies` of Drafts 4 to 7 (Draft 7, Validation 6.5.7), whose entries are names or a schema.
use Rattle.std.specs.Prelude.{List, [], ◌∷◌, codes}
use Rattle.schema_meaning.specs.Faults.{MaxProperties, MinProperties, Required}
use Rattle.schema_meaning.specs.Keywords.{asserts, max_properties, min_properties, required, needs, applies, never, dependent_schemas, dependencies}
use Rattle.worked_examples.specs.Forms.{natural, text, list_of, object_of, root, below, wrong_at, Example, over, accepted, refused}

abbrev pub dependent_schemas_and_names_examples : List Example
dependent_schemas_and_names_examples =
    -- {"dependentSchemas":{"a":{"required":["b"]}}}
    record {
      schema = over (root (dependent_schemas ((codes "a", 1) ∷ []) ∷ [])
          ∷ below "/dependentSchemas/a" (asserts (required (codes "b" ∷ [])) ∷ []) ∷ []);
      cases =
          -- {"a":1,"b":2}
          accepted (object_of (("a", natural 1) ∷ ("b", natural 2) ∷ []))
          -- {"a":1}
          ∷ refused (object_of (("a", natural 1) ∷ [])) (wrong_at (Required (codes "b")) (object_of (("a", natural 1) ∷ [])) "" "/dependentSchemas/a/required" ∷ [])
          -- {"c":1}
          ∷ accepted (object_of (("c", natural 1) ∷ [])) ∷ [];
    }
    -- names
    -- Draft 7: {"dependencies":{"a":["b"]}}
    ∷ record {
      schema = over (root (dependencies ((codes "a", needs (codes "b" ∷ [])) ∷ []) ∷ []) ∷ []);
      cases =
          -- {"a":1,"b":2}
          accepted (object_of (("a", natural 1) ∷ ("b", natural 2) ∷ []))
          -- {"a":1}
          ∷ refused (object_of (("a", natural 1) ∷ [])) (wrong_at (Required (codes "b")) (object_of (("a", natural 1) ∷ [])) "" "/dependencies" ∷ [])
          -- {"c":1}
          ∷ accepted (object_of (("c", natural 1) ∷ [])) ∷ [];
    }
    -- a schema
    -- Draft 7: {"dependencies":{"a":{"minProperties":2}}}
    ∷ record {
      schema = over (root (dependencies ((codes "a", applies 1) ∷ []) ∷ [])
          ∷ below "/dependencies/a" (asserts (min_properties 2) ∷ []) ∷ []);
      cases =
          -- {"a":1,"b":1}
          accepted (object_of (("a", natural 1) ∷ ("b", natural 1) ∷ []))
          -- {"a":1}
          ∷ refused (object_of (("a", natural 1) ∷ [])) (wrong_at (MinProperties 2) (object_of (("a", natural 1) ∷ [])) "" "/dependencies/a/minProperties" ∷ []) ∷ [];
    }
    -- both
    -- Draft 4: {"dependencies":{"a":["b","c"],"d":{"maxProperties":1}}}
    ∷ record {
      schema = over (root (dependencies ((codes "a", needs (codes "b" ∷ codes "c" ∷ [])) ∷ (codes "d", applies 1) ∷ []) ∷ [])
          ∷ below "/dependencies/d" (asserts (max_properties 1) ∷ []) ∷ []);
      cases =
          -- {"a":1,"d":1}
          refused (object_of (("a", natural 1) ∷ ("d", natural 1) ∷ [])) (wrong_at (Required (codes "b")) (object_of (("a", natural 1) ∷ ("d", natural 1) ∷ [])) "" "/dependencies"
          ∷ wrong_at (Required (codes "c")) (object_of (("a", natural 1) ∷ ("d", natural 1) ∷ [])) "" "/dependencies"
          ∷ wrong_at (MaxProperties 1) (object_of (("a", natural 1) ∷ ("d", natural 1) ∷ [])) "" "/dependencies/d/maxProperties" ∷ []) ∷ [];
    }
    -- Draft 6: {"dependencies":{"a":false}}
    ∷ record {
      schema = over (root (dependencies ((codes "a", applies 1) ∷ []) ∷ [])
          ∷ below "/dependencies/a" (never ∷ []) ∷ []);
      cases =
          -- ["a"]
          accepted (list_of (text "a" ∷ [])) ∷ [];
    }
    ∷ []
