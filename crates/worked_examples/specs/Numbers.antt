-- Keywords for numbers (Validation 6.2), over whole numbers from -2^63 to 2^64-1. Other values are accepted (Core 7.6.1).
use Rattle.std.specs.Prelude.{List, [], ◌∷◌, pos, negsuc}
use Rattle.schema_meaning.specs.Faults.{ExclusiveMaximum, ExclusiveMinimum, Maximum, Minimum, MultipleOf}
use Rattle.schema_meaning.specs.Keywords.{asserts, multiple_of, maximum, exclusive_maximum, minimum, exclusive_minimum}
use Rattle.worked_examples.specs.Forms.{natural, minus, text, root, wrong_at, Example, over, accepted, refused}

abbrev pub numbers_examples : List Example
numbers_examples =
    -- Validation 6.2.1
    -- {"multipleOf":3}
    record {
      schema = over (root (asserts (multiple_of 3) ∷ []) ∷ []);
      cases =
          -- -9
          accepted (minus 9)
          ∷ refused (natural 4) (wrong_at (MultipleOf 3) (natural 4) "" "/multipleOf" ∷ []) ∷ [];
    }
    -- Validation 6.2.2
    -- {"maximum":3}
    ∷ record {
      schema = over (root (asserts (maximum (pos 3)) ∷ []) ∷ []);
      cases = accepted (natural 3)
          ∷ refused (natural 4) (wrong_at (Maximum (pos 3)) (natural 4) "" "/maximum" ∷ []) ∷ [];
    }
    -- {"maximum":18446744073709551614}
    ∷ record {
      schema = over (root (asserts (maximum (pos 18446744073709551614)) ∷ []) ∷ []);
      cases = refused (natural 18446744073709551615) (wrong_at (Maximum (pos 18446744073709551614)) (natural 18446744073709551615) "" "/maximum" ∷ [])
          -- -9223372036854775808
          ∷ accepted (minus 9223372036854775808) ∷ [];
    }
    -- Validation 6.2.3
    -- {"exclusiveMaximum":3}
    ∷ record {
      schema = over (root (asserts (exclusive_maximum (pos 3)) ∷ []) ∷ []);
      cases = accepted (natural 2)
          ∷ refused (natural 3) (wrong_at (ExclusiveMaximum (pos 3)) (natural 3) "" "/exclusiveMaximum" ∷ []) ∷ [];
    }
    -- Validation 6.2.4
    -- {"minimum":-2}
    ∷ record {
      schema = over (root (asserts (minimum (negsuc 1)) ∷ []) ∷ []);
      cases =
          -- -2
          accepted (minus 2)
          -- -3
          ∷ refused (minus 3) (wrong_at (Minimum (negsuc 1)) (minus 3) "" "/minimum" ∷ []) ∷ [];
    }
    -- {"minimum":1}
    ∷ record {
      schema = over (root (asserts (minimum (pos 1)) ∷ []) ∷ []);
      cases = accepted (text "0") ∷ [];
    }
    -- Validation 6.2.5
    -- {"exclusiveMinimum":-2}
    ∷ record {
      schema = over (root (asserts (exclusive_minimum (negsuc 1)) ∷ []) ∷ []);
      cases =
          -- -1
          accepted (minus 1)
          -- -2
          ∷ refused (minus 2) (wrong_at (ExclusiveMinimum (negsuc 1)) (minus 2) "" "/exclusiveMinimum" ∷ []) ∷ [];
    }
    -- {"exclusiveMinimum":-9223372036854775808}
    ∷ record {
      schema = over (root (asserts (exclusive_minimum (negsuc 9223372036854775807)) ∷ []) ∷ []);
      cases =
          -- -9223372036854775808
          refused (minus 9223372036854775808) (wrong_at (ExclusiveMinimum (negsuc 9223372036854775807)) (minus 9223372036854775808) "" "/exclusiveMinimum" ∷ []) ∷ [];
    }
    ∷ []
