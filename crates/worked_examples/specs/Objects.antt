-- Keywords for the names of an object and their number (Validation 6.5).
use Rattle.std.specs.Prelude.{List, [], ◌∷◌, codes}
use Rattle.schema_meaning.specs.Faults.{MaxProperties, MinProperties, Required}
use Rattle.schema_meaning.specs.Keywords.{asserts, max_properties, min_properties, required, dependent_required}
use Rattle.worked_examples.specs.Forms.{natural, list_of, object_of, root, wrong_at, Example, over, accepted, refused}

abbrev pub objects_examples : List Example
objects_examples =
    -- Validation 6.5.1
    -- {"maxProperties":1}
    record {
      schema = over (root (asserts (max_properties 1) ∷ []) ∷ []);
      cases =
          -- {"a":1}
          accepted (object_of (("a", natural 1) ∷ []))
          -- {"a":1,"b":1}
          ∷ refused (object_of (("a", natural 1) ∷ ("b", natural 1) ∷ [])) (wrong_at (MaxProperties 1) (object_of (("a", natural 1) ∷ ("b", natural 1) ∷ [])) "" "/maxProperties" ∷ []) ∷ [];
    }
    -- Validation 6.5.2
    -- {"minProperties":1}
    ∷ record {
      schema = over (root (asserts (min_properties 1) ∷ []) ∷ []);
      cases =
          -- {"a":1}
          accepted (object_of (("a", natural 1) ∷ []))
          ∷ refused (object_of []) (wrong_at (MinProperties 1) (object_of []) "" "/minProperties" ∷ [])
          ∷ accepted (list_of []) ∷ [];
    }
    -- Validation 6.5.3: a fault for each missing name
    -- {"required":["a","b"]}
    ∷ record {
      schema = over (root (asserts (required (codes "a" ∷ codes "b" ∷ [])) ∷ []) ∷ []);
      cases =
          -- {"a":1,"b":1}
          accepted (object_of (("a", natural 1) ∷ ("b", natural 1) ∷ []))
          -- {"a":1}
          ∷ refused (object_of (("a", natural 1) ∷ [])) (wrong_at (Required (codes "b")) (object_of (("a", natural 1) ∷ [])) "" "/required" ∷ [])
          ∷ refused (object_of []) (wrong_at (Required (codes "a")) (object_of []) "" "/required"
          ∷ wrong_at (Required (codes "b")) (object_of []) "" "/required" ∷ []) ∷ [];
    }
    -- {"required":[]}
    ∷ record {
      schema = over (root (asserts (required []) ∷ []) ∷ []);
      cases = accepted (object_of []) ∷ [];
    }
    -- {"required":["a"]}
    ∷ record {
      schema = over (root (asserts (required (codes "a" ∷ [])) ∷ []) ∷ []);
      cases = accepted (list_of []) ∷ [];
    }
    -- Validation 6.5.4
    -- {"dependentRequired":{"a":["b","c"]}}
    ∷ record {
      schema = over (root (asserts (dependent_required ((codes "a", codes "b" ∷ codes "c" ∷ []) ∷ [])) ∷ []) ∷ []);
      cases =
          -- {"a":1,"b":1,"c":1}
          accepted (object_of (("a", natural 1) ∷ ("b", natural 1) ∷ ("c", natural 1) ∷ []))
          -- {"a":1}
          ∷ refused (object_of (("a", natural 1) ∷ [])) (wrong_at (Required (codes "b")) (object_of (("a", natural 1) ∷ [])) "" "/dependentRequired"
          ∷ wrong_at (Required (codes "c")) (object_of (("a", natural 1) ∷ [])) "" "/dependentRequired" ∷ [])
          -- {"b":1}
          ∷ accepted (object_of (("b", natural 1) ∷ [])) ∷ [];
    }
    ∷ []
