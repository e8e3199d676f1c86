-- Keywords for the items of an array and their number (Validation 6.4).
use Rattle.std.specs.Prelude.{List, [], ◌∷◌, true}
use Rattle.serde_json.specs.Data.{boolean}
use Rattle.schema_meaning.specs.Faults.{MaxItems, MinItems, UniqueItems}
use Rattle.schema_meaning.specs.Keywords.{asserts, max_items, min_items, unique_items}
use Rattle.worked_examples.specs.Forms.{natural, text, list_of, object_of, root, wrong_at, Example, over, accepted, refused}

abbrev pub lists_examples : List Example
lists_examples =
    -- Validation 6.4.1
    -- {"maxItems":2}
    record {
      schema = over (root (asserts (max_items 2) ∷ []) ∷ []);
      cases =
          -- [1,2]
          accepted (list_of (natural 1 ∷ natural 2 ∷ []))
          -- [1,2,3]
          ∷ refused (list_of (natural 1 ∷ natural 2 ∷ natural 3 ∷ [])) (wrong_at (MaxItems 2) (list_of (natural 1 ∷ natural 2 ∷ natural 3 ∷ [])) "" "/maxItems" ∷ []) ∷ [];
    }
    -- Validation 6.4.2
    -- {"minItems":2}
    ∷ record {
      schema = over (root (asserts (min_items 2) ∷ []) ∷ []);
      cases =
          -- [1,2]
          accepted (list_of (natural 1 ∷ natural 2 ∷ []))
          -- [1]
          ∷ refused (list_of (natural 1 ∷ [])) (wrong_at (MinItems 2) (list_of (natural 1 ∷ [])) "" "/minItems" ∷ [])
          ∷ accepted (object_of []) ∷ [];
    }
    -- Validation 6.4.3
    -- {"uniqueItems":true}
    ∷ record {
      schema = over (root (asserts unique_items ∷ []) ∷ []);
      cases =
          -- [1,true,"1"]
          accepted (list_of (natural 1 ∷ boolean true ∷ text "1" ∷ []))
          -- [1,{"a":1,"b":2},{"b":2,"a":1}]
          ∷ refused (list_of (natural 1 ∷ object_of (("a", natural 1) ∷ ("b", natural 2) ∷ []) ∷ object_of (("b", natural 2) ∷ ("a", natural 1) ∷ []) ∷ [])) (wrong_at UniqueItems (list_of (natural 1 ∷ object_of (("a", natural 1) ∷ ("b", natural 2) ∷ []) ∷ object_of (("b", natural 2) ∷ ("a", natural 1) ∷ []) ∷ [])) "" "/uniqueItems" ∷ []) ∷ [];
    }
    -- {"uniqueItems":false}
    ∷ record {
      schema = over (root [] ∷ []);
      cases =
          -- [1,1]
          accepted (list_of (natural 1 ∷ natural 1 ∷ [])) ∷ [];
    }
    ∷ []
