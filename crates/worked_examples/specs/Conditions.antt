-- `if`, `then` and `else` (Core 10.2.2.1 to 10.2.2.3). `if` refuses nothing by itself.
use Rattle.std.specs.Prelude.{List, [], ◌∷◌, pos, Some, None}
use Rattle.schema_meaning.specs.Faults.{FalseSchema, MultipleOf}
use Rattle.schema_meaning.specs.Keywords.{asserts, multiple_of, minimum, never, condition}
use Rattle.worked_examples.specs.Forms.{natural, minus, root, below, wrong_at, Example, over, accepted, refused}

abbrev pub conditions_examples : List Example
conditions_examples =
    -- {"else":{"multipleOf":2},"if":{"minimum":0},"then":{"multipleOf":2}}
    record {
      schema = over (root (condition 1 (Some 2) (Some 3) ∷ [])
          ∷ below "/if" (asserts (minimum (pos 0)) ∷ [])
          ∷ below "/then" (asserts (multiple_of 2) ∷ [])
          ∷ below "/else" (asserts (multiple_of 2) ∷ []) ∷ []);
      cases =
          -- -1
          refused (minus 1) (wrong_at (MultipleOf 2) (minus 1) "" "/else/multipleOf" ∷ [])
          ∷ refused (natural 3) (wrong_at (MultipleOf 2) (natural 3) "" "/then/multipleOf" ∷ []) ∷ [];
    }
    -- `else` would refuse it
    -- {"else":{"multipleOf":3},"if":{"minimum":0},"then":{"multipleOf":2}}
    ∷ record {
      schema = over (root (condition 1 (Some 2) (Some 3) ∷ [])
          ∷ below "/if" (asserts (minimum (pos 0)) ∷ [])
          ∷ below "/then" (asserts (multiple_of 2) ∷ [])
          ∷ below "/else" (asserts (multiple_of 3) ∷ []) ∷ []);
      cases = accepted (natural 2)
          -- -3: `then` would refuse it
          ∷ accepted (minus 3) ∷ [];
    }
    -- `then` alone
    -- {"if":{"minimum":0},"then":{"multipleOf":2}}
    ∷ record {
      schema = over (root (condition 1 (Some 2) None ∷ [])
          ∷ below "/if" (asserts (minimum (pos 0)) ∷ [])
          ∷ below "/then" (asserts (multiple_of 2) ∷ []) ∷ []);
      cases =
          -- -1
          accepted (minus 1)
          ∷ refused (natural 3) (wrong_at (MultipleOf 2) (natural 3) "" "/then/multipleOf" ∷ []) ∷ [];
    }
    -- `else` alone
    -- {"else":{"multipleOf":2},"if":{"minimum":0}}
    ∷ record {
      schema = over (root (condition 1 None (Some 2) ∷ [])
          ∷ below "/if" (asserts (minimum (pos 0)) ∷ [])
          ∷ below "/else" (asserts (multiple_of 2) ∷ []) ∷ []);
      cases = accepted (natural 3)
          -- -3
          ∷ refused (minus 3) (wrong_at (MultipleOf 2) (minus 3) "" "/else/multipleOf" ∷ []) ∷ [];
    }
    -- {"if":{"minimum":0},"then":false}
    ∷ record {
      schema = over (root (condition 1 (Some 2) None ∷ [])
          ∷ below "/if" (asserts (minimum (pos 0)) ∷ [])
          ∷ below "/then" (never ∷ []) ∷ []);
      cases = refused (natural 1) (wrong_at FalseSchema (natural 1) "" "/then" ∷ []) ∷ [];
    }
    -- `if` alone, and the others without it, say nothing
    -- {"if":{"minimum":0}}
    ∷ record {
      schema = over (root [] ∷ []);
      cases =
          -- -1
          accepted (minus 1) ∷ [];
    }
    -- {"else":false,"then":false}
    ∷ record {
      schema = over (root [] ∷ []);
      cases = accepted (natural 1) ∷ [];
    }
    ∷ []
