-- Keywords for texts (Validation 6.3). The length of a text is its number of code points (RFC 8259, section 7).
use Rattle.std.specs.Prelude.{List, [], ◌∷◌}
use Rattle.serde_json.specs.Data.{string}
use Rattle.schema_meaning.specs.Faults.{MaxLength, MinLength}
use Rattle.schema_meaning.specs.Keywords.{asserts, max_length, min_length}
use Rattle.worked_examples.specs.Forms.{natural, text, root, wrong_at, Example, over, accepted, refused}

abbrev pub texts_examples : List Example
texts_examples =
    -- Validation 6.3.1: U+00E9 is one code point, of two bytes
    -- {"maxLength":1}
    record {
      schema = over (root (asserts (max_length 1) ∷ []) ∷ []);
      cases =
          -- "é"
          accepted (string (0xc3 ∷ 0xa9 ∷ []))
          ∷ refused (text "ab") (wrong_at (MaxLength 1) (text "ab") "" "/maxLength" ∷ [])
          ∷ accepted (natural 12) ∷ [];
    }
    -- Validation 6.3.2
    -- {"minLength":2}
    ∷ record {
      schema = over (root (asserts (min_length 2) ∷ []) ∷ []);
      cases = accepted (text "ab")
          -- "é"
          ∷ refused (string (0xc3 ∷ 0xa9 ∷ [])) (wrong_at (MinLength 2) (string (0xc3 ∷ 0xa9 ∷ [])) "" "/minLength" ∷ [])
          -- "😀": U+1F600, which is no pair of characters
          ∷ refused (string (0xf0 ∷ 0x9f ∷ 0x98 ∷ 0x80 ∷ [])) (wrong_at (MinLength 2) (string (0xf0 ∷ 0x9f ∷ 0x98 ∷ 0x80 ∷ [])) "" "/minLength" ∷ []) ∷ [];
    }
    -- {"minLength":1}
    ∷ record {
      schema = over (root (asserts (min_length 1) ∷ []) ∷ []);
      cases = refused (text "") (wrong_at (MinLength 1) (text "") "" "/minLength" ∷ []) ∷ [];
    }
    ∷ []
