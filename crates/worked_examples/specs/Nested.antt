-- Combinations inside one another: a branch's faults stand in the fault of the combination around it, at every level (Core 10.2.1).
use Rattle.std.specs.Prelude.{List, [], ◌∷◌, pos}
use Rattle.serde_json.specs.Data.{null}
use Rattle.json_values.specs.Kinds.{null_type, string_type, integer_type}
use Rattle.schema_meaning.specs.Faults.{AnyOf, Minimum, MultipleOf, Not, OneOfMultipleValid, OneOfNotValid, Types}
use Rattle.schema_meaning.specs.Keywords.{asserts, types, multiple_of, minimum, items, all_of, any_of, one_of, negation}
use Rattle.worked_examples.specs.Forms.{natural, text, list_of, object_of, root, below, branches_in, wrong_at, Example, over, accepted, refused}

abbrev pub nested_combinations_examples : List Example
nested_combinations_examples =
    -- {"anyOf":[{"anyOf":[{"type":"string"},{"minimum":5}]},{"allOf":[{"type":"integer"},{"multipleOf":2}]}]}
    record {
      schema = over (root (any_of (1 ∷ 4 ∷ []) ∷ [])
          ∷ below "/anyOf/0" (any_of (2 ∷ 3 ∷ []) ∷ [])
          ∷ below "/anyOf/0/anyOf/0" (asserts (types (string_type ∷ [])) ∷ [])
          ∷ below "/anyOf/0/anyOf/1" (asserts (minimum (pos 5)) ∷ [])
          ∷ below "/anyOf/1" (all_of (5 ∷ 6 ∷ []) ∷ [])
          ∷ below "/anyOf/1/allOf/0" (asserts (types (integer_type ∷ [])) ∷ [])
          ∷ below "/anyOf/1/allOf/1" (asserts (multiple_of 2) ∷ []) ∷ []);
      cases = accepted (natural 4) ∷ [];
    }
    -- {"anyOf":[{"anyOf":[{"type":"string"},{"minimum":5}]},{"allOf":[{"type":"string"},{"multipleOf":2}]}]}
    ∷ record {
      schema = over (root (any_of (1 ∷ 4 ∷ []) ∷ [])
          ∷ below "/anyOf/0" (any_of (2 ∷ 3 ∷ []) ∷ [])
          ∷ below "/anyOf/0/anyOf/0" (asserts (types (string_type ∷ [])) ∷ [])
          ∷ below "/anyOf/0/anyOf/1" (asserts (minimum (pos 5)) ∷ [])
          ∷ below "/anyOf/1" (all_of (5 ∷ 6 ∷ []) ∷ [])
          ∷ below "/anyOf/1/allOf/0" (asserts (types (string_type ∷ [])) ∷ [])
          ∷ below "/anyOf/1/allOf/1" (asserts (multiple_of 2) ∷ []) ∷ []);
      cases = refused (natural 3) (wrong_at (AnyOf (branches_in ((wrong_at (AnyOf (branches_in ((wrong_at (Types (string_type ∷ [])) (natural 3) "" "/anyOf/0/anyOf/0/type" ∷ []) ∷ (wrong_at (Minimum (pos 5)) (natural 3) "" "/anyOf/0/anyOf/1/minimum" ∷ []) ∷ []))) (natural 3) "" "/anyOf/0/anyOf" ∷ []) ∷ (wrong_at (Types (string_type ∷ [])) (natural 3) "" "/anyOf/1/allOf/0/type" ∷ wrong_at (MultipleOf 2) (natural 3) "" "/anyOf/1/allOf/1/multipleOf" ∷ []) ∷ []))) (natural 3) "" "/anyOf" ∷ []) ∷ [];
    }
    -- {"items":{"anyOf":[{"type":"string"},{"items":{"type":"null"}}]}}
    ∷ record {
      schema = over (root (items 0 1 ∷ [])
          ∷ below "/items" (any_of (2 ∷ 3 ∷ []) ∷ [])
          ∷ below "/items/anyOf/0" (asserts (types (string_type ∷ [])) ∷ [])
          ∷ below "/items/anyOf/1" (items 0 4 ∷ [])
          ∷ below "/items/anyOf/1/items" (asserts (types (null_type ∷ [])) ∷ []) ∷ []);
      cases =
          -- ["a",[1,null]]
          refused (list_of (text "a" ∷ list_of (natural 1 ∷ null ∷ []) ∷ [])) (wrong_at (AnyOf (branches_in ((wrong_at (Types (string_type ∷ [])) (list_of (natural 1 ∷ null ∷ [])) "/1" "/items/anyOf/0/type" ∷ []) ∷ (wrong_at (Types (null_type ∷ [])) (natural 1) "/1/0" "/items/anyOf/1/items/type" ∷ []) ∷ []))) (list_of (natural 1 ∷ null ∷ [])) "/1" "/items/anyOf" ∷ []) ∷ [];
    }
    -- {"not":{"anyOf":[{"type":"string"},{"type":"null"}]}}
    ∷ record {
      schema = over (root (negation (object_of (("anyOf", list_of (object_of (("type", text "string") ∷ []) ∷ object_of (("type", text "null") ∷ []) ∷ [])) ∷ [])) 1 ∷ [])
          ∷ below "/not" (any_of (2 ∷ 3 ∷ []) ∷ [])
          ∷ below "/not/anyOf/0" (asserts (types (string_type ∷ [])) ∷ [])
          ∷ below "/not/anyOf/1" (asserts (types (null_type ∷ [])) ∷ []) ∷ []);
      cases = accepted (natural 1)
          ∷ refused null (wrong_at (Not (object_of (("anyOf", list_of (object_of (("type", text "string") ∷ []) ∷ object_of (("type", text "null") ∷ []) ∷ [])) ∷ []))) null "" "/not" ∷ []) ∷ [];
    }
    -- {"oneOf":[{"not":{"type":"integer"}},{"oneOf":[{"minimum":1},{"minimum":2}]}]}
    ∷ record {
      schema = over (root (one_of (1 ∷ 3 ∷ []) ∷ [])
          ∷ below "/oneOf/0" (negation (object_of (("type", text "integer") ∷ [])) 2 ∷ [])
          ∷ below "/oneOf/0/not" (asserts (types (integer_type ∷ [])) ∷ [])
          ∷ below "/oneOf/1" (one_of (4 ∷ 5 ∷ []) ∷ [])
          ∷ below "/oneOf/1/oneOf/0" (asserts (minimum (pos 1)) ∷ [])
          ∷ below "/oneOf/1/oneOf/1" (asserts (minimum (pos 2)) ∷ []) ∷ []);
      cases = refused (natural 2) (wrong_at (OneOfNotValid (branches_in ((wrong_at (Not (object_of (("type", text "integer") ∷ []))) (natural 2) "" "/oneOf/0/not" ∷ []) ∷ (wrong_at (OneOfMultipleValid (branches_in ([] ∷ [] ∷ []))) (natural 2) "" "/oneOf/1/oneOf" ∷ []) ∷ []))) (natural 2) "" "/oneOf" ∷ []) ∷ [];
    }
    ∷ []
