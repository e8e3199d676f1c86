-- The last of several.
use Rattle.std.proofs.Common.{◌≡◌, List, [], ◌∷◌, ◌++◌, Bool, true, false, if◌then◌else◌, Option, Some, None, refl, ap, ◌∙◌}
use Rattle.schema_definitions.specs.Words.{or_else, last_that}

kept : {X : Type 0} (b : Bool) (o p : Option X) (x : X) → or_else (if b then Some x else o) p ≡ (if b then Some x else or_else o p)
kept true o p x = refl
kept false o p x = refl

-- one more
pub last_that-push : {X : Type 0} (test : X → Bool) (xs : List X) (x : X) → last_that test (xs ++ x ∷ []) ≡ (if test x then Some x else last_that test xs)
last_that-push test [] x = refl
last_that-push test (y ∷ xs) x =
    ap (λ o. or_else o (if test y then Some y else None)) (last_that-push test xs x) ∙ kept (test x) (last_that test xs) (if test y then Some y else None) x
