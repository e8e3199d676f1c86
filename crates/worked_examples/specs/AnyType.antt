-- Keywords for values of any type: `type`, `enum`, `const` (Validation 6.1).
-- Types and equality are those of Core 4.2.1 and 4.2.2.
use Rattle.std.specs.Prelude.{List, [], ◌∷◌, true, false}
use Rattle.serde_json.specs.Data.{null, boolean}
use Rattle.json_values.specs.Kinds.{null_type, boolean_type, object_type, number_type, string_type, integer_type}
use Rattle.schema_meaning.specs.Faults.{Constant, Enumeration, Types}
use Rattle.schema_meaning.specs.Keywords.{asserts, types, constant, enumeration}
use Rattle.worked_examples.specs.Forms.{natural, minus, text, list_of, object_of, items_in, root, wrong_at, Example, over, accepted, refused}

abbrev pub any_type_examples : List Example
any_type_examples =
    -- Validation 6.1.1
    -- {"type":"integer"}
    record {
      schema = over (root (asserts (types (integer_type ∷ [])) ∷ []) ∷ []);
      cases = accepted (natural 1)
          ∷ refused (text "x") (wrong_at (Types (integer_type ∷ [])) (text "x") "" "/type" ∷ []) ∷ [];
    }
    -- {"type":"number"}
    ∷ record {
      schema = over (root (asserts (types (number_type ∷ [])) ∷ []) ∷ []);
      cases =
          -- -3
          accepted (minus 3) ∷ [];
    }
    -- one of several
    -- {"type":["string","null"]}
    ∷ record {
      schema = over (root (asserts (types (string_type ∷ null_type ∷ [])) ∷ []) ∷ []);
      cases = accepted null
          ∷ refused (list_of []) (wrong_at (Types (string_type ∷ null_type ∷ [])) (list_of []) "" "/type" ∷ []) ∷ [];
    }
    -- {"type":"object"}
    ∷ record {
      schema = over (root (asserts (types (object_type ∷ [])) ∷ []) ∷ []);
      cases = refused (boolean false) (wrong_at (Types (object_type ∷ [])) (boolean false) "" "/type" ∷ []) ∷ [];
    }
    -- {"type":"boolean"}
    ∷ record {
      schema = over (root (asserts (types (boolean_type ∷ [])) ∷ []) ∷ []);
      cases = accepted (boolean false) ∷ [];
    }
    -- none of none
    -- {"type":[]}
    ∷ record {
      schema = over (root (asserts (types []) ∷ []) ∷ []);
      cases = refused null (wrong_at (Types []) null "" "/type" ∷ []) ∷ [];
    }
    -- Validation 6.1.2
    -- {"enum":[1,"a",null]}
    ∷ record {
      schema = over (root (asserts (enumeration (items_in (natural 1 ∷ text "a" ∷ null ∷ []))) ∷ []) ∷ []);
      cases = accepted (text "a")
          -- true is not 1: they are of different types (Core 4.2.2)
          ∷ refused (boolean true) (wrong_at (Enumeration (items_in (natural 1 ∷ text "a" ∷ null ∷ []))) (boolean true) "" "/enum" ∷ []) ∷ [];
    }
    -- {"enum":[]}
    ∷ record {
      schema = over (root (asserts (enumeration (items_in [])) ∷ []) ∷ []);
      cases = refused null (wrong_at (Enumeration (items_in [])) null "" "/enum" ∷ []) ∷ [];
    }
    -- objects are equal without order (Core 4.2.2)
    -- {"enum":[[1],{"a":1,"b":2}]}
    ∷ record {
      schema = over (root (asserts (enumeration (items_in (list_of (natural 1 ∷ []) ∷ object_of (("a", natural 1) ∷ ("b", natural 2) ∷ []) ∷ []))) ∷ []) ∷ []);
      cases =
          -- {"b":2,"a":1}
          accepted (object_of (("b", natural 2) ∷ ("a", natural 1) ∷ [])) ∷ [];
    }
    -- Validation 6.1.3
    -- {"const":{"a":[1,2]}}
    ∷ record {
      schema = over (root (asserts (constant (object_of (("a", list_of (natural 1 ∷ natural 2 ∷ [])) ∷ []))) ∷ []) ∷ []);
      cases =
          -- {"a":[1,2]}
          accepted (object_of (("a", list_of (natural 1 ∷ natural 2 ∷ [])) ∷ []))
          -- {"a":[2,1]}: arrays are equal in order
          ∷ refused (object_of (("a", list_of (natural 2 ∷ natural 1 ∷ [])) ∷ [])) (wrong_at (Constant (object_of (("a", list_of (natural 1 ∷ natural 2 ∷ [])) ∷ []))) (object_of (("a", list_of (natural 2 ∷ natural 1 ∷ [])) ∷ [])) "" "/const" ∷ []) ∷ [];
    }
    -- {"const":null}
    ∷ record {
      schema = over (root (asserts (constant null) ∷ []) ∷ []);
      cases = refused (natural 0) (wrong_at (Constant null) (natural 0) "" "/const" ∷ []) ∷ [];
    }
    ∷ []
