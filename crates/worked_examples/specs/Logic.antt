-- `allOf`, `anyOf`, `oneOf` and `not` (Core 10.2.1). What `anyOf` and `oneOf` refuse carries the faults of each branch; none of them is told by itself.
use Rattle.std.specs.Prelude.{List, [], ◌∷◌, pos}
use Rattle.json_values.specs.Kinds.{null_type, string_type, integer_type}
use Rattle.schema_meaning.specs.Faults.{AnyOf, Minimum, Not, OneOfMultipleValid, OneOfNotValid, Types}
use Rattle.schema_meaning.specs.Keywords.{asserts, types, maximum, minimum, all_of, any_of, one_of, negation}
use Rattle.worked_examples.specs.Forms.{natural, text, object_of, root, below, branches_in, wrong_at, Example, over, accepted, refused}

abbrev pub combinations_examples : List Example
combinations_examples =
    -- Core 10.2.1.1
    -- {"allOf":[{"type":"integer"},{"minimum":2}]}
    record {
      schema = over (root (all_of (1 ∷ 2 ∷ []) ∷ [])
          ∷ below "/allOf/0" (asserts (types (integer_type ∷ [])) ∷ [])
          ∷ below "/allOf/1" (asserts (minimum (pos 2)) ∷ []) ∷ []);
      cases = accepted (natural 3)
          ∷ refused (natural 1) (wrong_at (Minimum (pos 2)) (natural 1) "" "/allOf/1/minimum" ∷ []) ∷ [];
    }
    -- {"allOf":[]}
    ∷ record {
      schema = over (root (all_of [] ∷ []) ∷ []);
      cases = accepted (natural 1) ∷ [];
    }
    -- Core 10.2.1.2
    -- {"anyOf":[{"type":"string"},{"minimum":2}]}
    ∷ record {
      schema = over (root (any_of (1 ∷ 2 ∷ []) ∷ [])
          ∷ below "/anyOf/0" (asserts (types (string_type ∷ [])) ∷ [])
          ∷ below "/anyOf/1" (asserts (minimum (pos 2)) ∷ []) ∷ []);
      cases = accepted (natural 3)
          ∷ refused (natural 1) (wrong_at (AnyOf (branches_in ((wrong_at (Types (string_type ∷ [])) (natural 1) "" "/anyOf/0/type" ∷ []) ∷ (wrong_at (Minimum (pos 2)) (natural 1) "" "/anyOf/1/minimum" ∷ []) ∷ []))) (natural 1) "" "/anyOf" ∷ []) ∷ [];
    }
    -- {"anyOf":[]}
    ∷ record {
      schema = over (root (any_of [] ∷ []) ∷ []);
      cases = refused (natural 1) (wrong_at (AnyOf (branches_in [])) (natural 1) "" "/anyOf" ∷ []) ∷ [];
    }
    -- Core 10.2.1.3
    -- {"oneOf":[{"minimum":2},{"maximum":5}]}
    ∷ record {
      schema = over (root (one_of (1 ∷ 2 ∷ []) ∷ [])
          ∷ below "/oneOf/0" (asserts (minimum (pos 2)) ∷ [])
          ∷ below "/oneOf/1" (asserts (maximum (pos 5)) ∷ []) ∷ []);
      cases = accepted (natural 1)
          ∷ refused (natural 3) (wrong_at (OneOfMultipleValid (branches_in ([] ∷ [] ∷ []))) (natural 3) "" "/oneOf" ∷ []) ∷ [];
    }
    -- {"oneOf":[{"minimum":2},{"type":"string"},{"maximum":5}]}
    ∷ record {
      schema = over (root (one_of (1 ∷ 2 ∷ 3 ∷ []) ∷ [])
          ∷ below "/oneOf/0" (asserts (minimum (pos 2)) ∷ [])
          ∷ below "/oneOf/1" (asserts (types (string_type ∷ [])) ∷ [])
          ∷ below "/oneOf/2" (asserts (maximum (pos 5)) ∷ []) ∷ []);
      cases = refused (natural 3) (wrong_at (OneOfMultipleValid (branches_in ([] ∷ (wrong_at (Types (string_type ∷ [])) (natural 3) "" "/oneOf/1/type" ∷ []) ∷ [] ∷ []))) (natural 3) "" "/oneOf" ∷ []) ∷ [];
    }
    -- {"oneOf":[{"type":"string"},{"type":"null"}]}
    ∷ record {
      schema = over (root (one_of (1 ∷ 2 ∷ []) ∷ [])
          ∷ below "/oneOf/0" (asserts (types (string_type ∷ [])) ∷ [])
          ∷ below "/oneOf/1" (asserts (types (null_type ∷ [])) ∷ []) ∷ []);
      cases = refused (natural 3) (wrong_at (OneOfNotValid (branches_in ((wrong_at (Types (string_type ∷ [])) (natural 3) "" "/oneOf/0/type" ∷ []) ∷ (wrong_at (Types (null_type ∷ [])) (natural 3) "" "/oneOf/1/type" ∷ []) ∷ []))) (natural 3) "" "/oneOf" ∷ []) ∷ [];
    }
    -- {"oneOf":[]}
    ∷ record {
      schema = over (root (one_of [] ∷ []) ∷ []);
      cases = refused (natural 3) (wrong_at (OneOfNotValid (branches_in [])) (natural 3) "" "/oneOf" ∷ []) ∷ [];
    }
    -- Core 10.2.1.4
    -- {"not":{"type":"integer"}}
    ∷ record {
      schema = over (root (negation (object_of (("type", text "integer") ∷ [])) 1 ∷ [])
          ∷ below "/not" (asserts (types (integer_type ∷ [])) ∷ []) ∷ []);
      cases = accepted (text "x")
          ∷ refused (natural 1) (wrong_at (Not (object_of (("type", text "integer") ∷ []))) (natural 1) "" "/not" ∷ []) ∷ [];
    }
    -- {"not":{"not":{"type":"integer"}}}
    ∷ record {
      schema = over (root (negation (object_of (("not", object_of (("type", text "integer") ∷ [])) ∷ [])) 1 ∷ [])
          ∷ below "/not" (negation (object_of (("type", text "integer") ∷ [])) 2 ∷ [])
          ∷ below "/not/not" (asserts (types (integer_type ∷ [])) ∷ []) ∷ []);
      cases = refused (text "x") (wrong_at (Not (object_of (("not", object_of (("type", text "integer") ∷ [])) ∷ []))) (text "x") "" "/not" ∷ []) ∷ [];
    }
    ∷ []
