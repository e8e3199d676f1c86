-- `contains` (Core 10.3.1.3) with `minContains` and `maxContains` (Validation 6.4.4, 6.4.5).
use Rattle.std.specs.Prelude.{List, [], ◌∷◌, Some, None}
use Rattle.json_values.specs.Kinds.{integer_type}
use Rattle.schema_meaning.specs.Faults.{Contains}
use Rattle.schema_meaning.specs.Keywords.{asserts, types, contains}
use Rattle.worked_examples.specs.Forms.{natural, text, list_of, root, below, wrong_at, Example, over, accepted, refused}

abbrev pub item_counts_examples : List Example
item_counts_examples =
    -- Core 10.3.1.3
    -- {"contains":{"type":"integer"}}
    record {
      schema = over (root (contains 1 None None ∷ [])
          ∷ below "/contains" (asserts (types (integer_type ∷ [])) ∷ []) ∷ []);
      cases =
          -- ["a",1]
          accepted (list_of (text "a" ∷ natural 1 ∷ []))
          -- ["a"]
          ∷ refused (list_of (text "a" ∷ [])) (wrong_at Contains (list_of (text "a" ∷ [])) "" "/contains" ∷ [])
          ∷ refused (list_of []) (wrong_at Contains (list_of []) "" "/contains" ∷ [])
          ∷ accepted (text "a") ∷ [];
    }
    -- Validation 6.4.4; without `minContains` at least one
    -- {"contains":{"type":"integer"},"maxContains":1}
    ∷ record {
      schema = over (root (contains 1 None (Some 1) ∷ [])
          ∷ below "/contains" (asserts (types (integer_type ∷ [])) ∷ []) ∷ []);
      cases =
          -- [1,"a"]
          accepted (list_of (natural 1 ∷ text "a" ∷ []))
          -- ["a"]
          ∷ refused (list_of (text "a" ∷ [])) (wrong_at Contains (list_of (text "a" ∷ [])) "" "/maxContains" ∷ [])
          -- [1,2]
          ∷ refused (list_of (natural 1 ∷ natural 2 ∷ [])) (wrong_at Contains (list_of (natural 1 ∷ natural 2 ∷ [])) "" "/maxContains" ∷ []) ∷ [];
    }
    -- Validation 6.4.5
    -- {"contains":{"type":"integer"},"minContains":2}
    ∷ record {
      schema = over (root (contains 1 (Some 2) None ∷ [])
          ∷ below "/contains" (asserts (types (integer_type ∷ [])) ∷ []) ∷ []);
      cases =
          -- [1,2]
          accepted (list_of (natural 1 ∷ natural 2 ∷ []))
          -- [1]
          ∷ refused (list_of (natural 1 ∷ [])) (wrong_at Contains (list_of (natural 1 ∷ [])) "" "/minContains" ∷ []) ∷ [];
    }
    -- {"contains":{"type":"integer"},"minContains":0}
    ∷ record {
      schema = over (root (contains 1 (Some 0) None ∷ [])
          ∷ below "/contains" (asserts (types (integer_type ∷ [])) ∷ []) ∷ []);
      cases =
          -- ["a"]
          accepted (list_of (text "a" ∷ [])) ∷ [];
    }
    -- {"contains":{"type":"integer"},"minContains":2,"maxContains":2}
    ∷ record {
      schema = over (root (contains 1 (Some 2) (Some 2) ∷ [])
          ∷ below "/contains" (asserts (types (integer_type ∷ [])) ∷ []) ∷ []);
      cases =
          -- [1,2,"a"]
          accepted (list_of (natural 1 ∷ natural 2 ∷ text "a" ∷ []))
          -- [1]
          ∷ refused (list_of (natural 1 ∷ [])) (wrong_at Contains (list_of (natural 1 ∷ [])) "" "/minContains" ∷ [])
          -- [1,2,3]
          ∷ refused (list_of (natural 1 ∷ natural 2 ∷ natural 3 ∷ [])) (wrong_at Contains (list_of (natural 1 ∷ natural 2 ∷ natural 3 ∷ [])) "" "/maxContains" ∷ []) ∷ [];
    }
    -- too many and too few: one fault
    -- {"contains":{"type":"integer"},"minContains":3,"maxContains":1}
    ∷ record {
      schema = over (root (contains 1 (Some 3) (Some 1) ∷ [])
          ∷ below "/contains" (asserts (types (integer_type ∷ [])) ∷ []) ∷ []);
      cases =
          -- [1,2]
          refused (list_of (natural 1 ∷ natural 2 ∷ [])) (wrong_at Contains (list_of (natural 1 ∷ natural 2 ∷ [])) "" "/maxContains" ∷ []) ∷ [];
    }
    -- the bounds are not read
    -- Draft 7: {"contains":{"type":"integer"},"minContains":2,"maxContains":2}
    ∷ record {
      schema = over (root (contains 1 None None ∷ [])
          ∷ below "/contains" (asserts (types (integer_type ∷ [])) ∷ []) ∷ []);
      cases =
          -- [1]
          accepted (list_of (natural 1 ∷ [])) ∷ [];
    }
    ∷ []
