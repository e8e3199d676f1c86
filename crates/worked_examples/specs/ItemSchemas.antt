-- Schemas for items: `items` and `prefixItems` (Core 10.3.1.1, 10.3.1.2), `items` as a list and `additionalItems` (2019-09, Core 9.3.1.1, 9.3.1.2; Draft 7, Validation 6.4.1, 6.4.2).
use Rattle.std.specs.Prelude.{List, [], ◌∷◌}
use Rattle.serde_json.specs.Data.{null}
use Rattle.json_values.specs.Kinds.{string_type, integer_type}
use Rattle.schema_meaning.specs.Faults.{AdditionalItems, FalseSchema, Types}
use Rattle.schema_meaning.specs.Keywords.{asserts, types, never, items, item_list, prefix_items, additional_items, no_additional_items}
use Rattle.worked_examples.specs.Forms.{natural, text, list_of, object_of, root, below, wrong_at, Example, over, accepted, refused}

abbrev pub item_schemas_examples : List Example
item_schemas_examples =
    -- Core 10.3.1.2
    -- {"items":{"type":"integer"}}
    record {
      schema = over (root (items 0 1 ∷ [])
          ∷ below "/items" (asserts (types (integer_type ∷ [])) ∷ []) ∷ []);
      cases =
          -- [1,2]
          accepted (list_of (natural 1 ∷ natural 2 ∷ []))
          -- [1,"x",null]
          ∷ refused (list_of (natural 1 ∷ text "x" ∷ null ∷ [])) (wrong_at (Types (integer_type ∷ [])) (text "x") "/1" "/items/type"
          ∷ wrong_at (Types (integer_type ∷ [])) null "/2" "/items/type" ∷ [])
          -- {"0":"x"}
          ∷ accepted (object_of (("0", text "x") ∷ [])) ∷ [];
    }
    -- Core 10.3.1.1: each item by the schema of its position, if any
    -- {"prefixItems":[{"type":"string"},{"type":"integer"}]}
    ∷ record {
      schema = over (root (prefix_items (1 ∷ 2 ∷ []) ∷ [])
          ∷ below "/prefixItems/0" (asserts (types (string_type ∷ [])) ∷ [])
          ∷ below "/prefixItems/1" (asserts (types (integer_type ∷ [])) ∷ []) ∷ []);
      cases =
          -- ["a"]
          accepted (list_of (text "a" ∷ []))
          -- [1,2,3]
          ∷ refused (list_of (natural 1 ∷ natural 2 ∷ natural 3 ∷ [])) (wrong_at (Types (string_type ∷ [])) (natural 1) "/0" "/prefixItems/0/type" ∷ []) ∷ [];
    }
    -- `items` begins behind `prefixItems`
    -- {"prefixItems":[{"type":"string"}],"items":false}
    ∷ record {
      schema = over (root (items 1 1 ∷ prefix_items (2 ∷ []) ∷ [])
          ∷ below "/items" (never ∷ [])
          ∷ below "/prefixItems/0" (asserts (types (string_type ∷ [])) ∷ []) ∷ []);
      cases =
          -- ["a"]
          accepted (list_of (text "a" ∷ []))
          -- ["a",1]
          ∷ refused (list_of (text "a" ∷ natural 1 ∷ [])) (wrong_at FalseSchema (natural 1) "/1" "/items" ∷ []) ∷ [];
    }
    -- one schema an index
    -- Draft 7: {"items":[{"type":"string"}]}
    ∷ record {
      schema = over (root (item_list (1 ∷ []) ∷ [])
          ∷ below "/items/0" (asserts (types (string_type ∷ [])) ∷ []) ∷ []);
      cases =
          -- ["a",3]
          accepted (list_of (text "a" ∷ natural 3 ∷ []))
          -- [3]
          ∷ refused (list_of (natural 3 ∷ [])) (wrong_at (Types (string_type ∷ [])) (natural 3) "/0" "/items/0/type" ∷ []) ∷ [];
    }
    -- the items behind the list
    -- 2019-09: {"items":[{}],"additionalItems":{"type":"string"}}
    ∷ record {
      schema = over (root (additional_items 1 1 ∷ item_list (2 ∷ []) ∷ [])
          ∷ below "/additionalItems" (asserts (types (string_type ∷ [])) ∷ [])
          ∷ below "/items/0" [] ∷ []);
      cases =
          -- [1,"a"]
          accepted (list_of (natural 1 ∷ text "a" ∷ []))
          -- [1,2]
          ∷ refused (list_of (natural 1 ∷ natural 2 ∷ [])) (wrong_at (Types (string_type ∷ [])) (natural 2) "/1" "/additionalItems/type" ∷ []) ∷ [];
    }
    -- Draft 7: {"items":[{}],"additionalItems":false}
    ∷ record {
      schema = over (root (no_additional_items 1 1 ∷ item_list (2 ∷ []) ∷ [])
          ∷ below "/additionalItems" (never ∷ [])
          ∷ below "/items/0" [] ∷ []);
      cases =
          -- [1]
          accepted (list_of (natural 1 ∷ []))
          -- [1,2,3]: one fault, of the array
          ∷ refused (list_of (natural 1 ∷ natural 2 ∷ natural 3 ∷ [])) (wrong_at AdditionalItems (list_of (natural 1 ∷ natural 2 ∷ natural 3 ∷ [])) "" "/additionalItems" ∷ []) ∷ [];
    }
    -- beside an `items` that is no list `additionalItems` says nothing
    -- Draft 7: {"items":{},"additionalItems":false}
    ∷ record {
      schema = over (root (items 0 1 ∷ [])
          ∷ below "/items" [] ∷ []);
      cases =
          -- [1]
          accepted (list_of (natural 1 ∷ [])) ∷ [];
    }
    ∷ []
