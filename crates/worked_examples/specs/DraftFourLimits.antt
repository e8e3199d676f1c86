-- The limits of Draft 4, which a boolean beside makes strict (Draft 4 Validation 5.1.2, 5.1.3): the fault then stands under the name of the boolean.
use Rattle.std.specs.Prelude.{List, [], ◌∷◌, pos, true, false}
use Rattle.schema_meaning.specs.Faults.{ExclusiveMaximum, ExclusiveMinimum, Maximum, Minimum}
use Rattle.schema_meaning.specs.Keywords.{asserts, maximum_of_draft_4, minimum_of_draft_4}
use Rattle.worked_examples.specs.Forms.{natural, root, wrong_at, Example, over, accepted, refused}

abbrev pub draft_four_limits_examples : List Example
draft_four_limits_examples =
    -- 5.1.3
    -- Draft 4: {"minimum":5,"exclusiveMinimum":true}
    record {
      schema = over (root (asserts (minimum_of_draft_4 (pos 5) true) ∷ []) ∷ []);
      cases = refused (natural 5) (wrong_at (ExclusiveMinimum (pos 5)) (natural 5) "" "/exclusiveMinimum" ∷ [])
          ∷ accepted (natural 6)
          ∷ refused (natural 4) (wrong_at (ExclusiveMinimum (pos 5)) (natural 4) "" "/exclusiveMinimum" ∷ []) ∷ [];
    }
    -- Draft 4: {"minimum":5,"exclusiveMinimum":false}
    ∷ record {
      schema = over (root (asserts (minimum_of_draft_4 (pos 5) false) ∷ []) ∷ []);
      cases = accepted (natural 5) ∷ [];
    }
    -- Draft 4: {"minimum":5}
    ∷ record {
      schema = over (root (asserts (minimum_of_draft_4 (pos 5) false) ∷ []) ∷ []);
      cases = refused (natural 4) (wrong_at (Minimum (pos 5)) (natural 4) "" "/minimum" ∷ []) ∷ [];
    }
    -- 5.1.2
    -- Draft 4: {"maximum":5,"exclusiveMaximum":true}
    ∷ record {
      schema = over (root (asserts (maximum_of_draft_4 (pos 5) true) ∷ []) ∷ []);
      cases = refused (natural 5) (wrong_at (ExclusiveMaximum (pos 5)) (natural 5) "" "/exclusiveMaximum" ∷ [])
          ∷ accepted (natural 4) ∷ [];
    }
    -- Draft 4: {"maximum":5,"exclusiveMaximum":false}
    ∷ record {
      schema = over (root (asserts (maximum_of_draft_4 (pos 5) false) ∷ []) ∷ []);
      cases = accepted (natural 5) ∷ [];
    }
    -- Draft 4: {"maximum":5}
    ∷ record {
      schema = over (root (asserts (maximum_of_draft_4 (pos 5) false) ∷ []) ∷ []);
      cases = refused (natural 6) (wrong_at (Maximum (pos 5)) (natural 6) "" "/maximum" ∷ []) ∷ [];
    }
    -- the boolean asserts nothing by itself
    -- Draft 4: {"exclusiveMaximum":true}
    ∷ record {
      schema = over (root [] ∷ []);
      cases = accepted (natural 5) ∷ [];
    }
    ∷ []
