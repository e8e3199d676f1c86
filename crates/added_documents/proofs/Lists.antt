-- The last that passes, in lists put together.
use Rattle.std.proofs.Common.{◌≡◌, ◌∙◌, List, [], ◌∷◌, ◌++◌, Bool, true, false, Option, Some, None, refl, sym, ap}
use Rattle.std.specs.List.{AllByRecursion}
use Rattle.std.specs.Prelude.{if◌then◌else◌}
use Rattle.schema_meaning.specs.Members.{In, first, later}
use Rattle.schema_definitions.specs.Words.{or_else, last_that}

module _ {A : Type 0} where
  pub or_else_none : (o : Option A) → or_else o None ≡ o
  or_else_none None = refl
  or_else_none (Some x) = refl

  or_else_thrice : (o p q : Option A) → or_else (or_else o p) q ≡ or_else o (or_else p q)
  or_else_thrice None p q = refl
  or_else_thrice (Some x) p q = refl

  pub record Neither (o p : Option A) : Type 0 where
    pub one : o ≡ None
    pub other : p ≡ None

  pub neither : (o p : Option A) → or_else o p ≡ None → Neither o p
  neither None p e = record { one = refl; other = e }
  neither (Some x) p e = cc

  module _ (test : A → Bool) where
    pub last_of_both : (xs ys : List A) → last_that test (xs ++ ys) ≡ or_else (last_that test ys) (last_that test xs)
    last_of_both [] ys = sym (or_else_none (last_that test ys))
    last_of_both (x ∷ xs) ys =
        let here = if test x then Some x else None in
        ap (λ o. or_else o here) (last_of_both xs ys) ∙ or_else_thrice (last_that test ys) (last_that test xs) here

    fails_here : (x : A) (b : Bool) → test x ≡ b → (if b then Some x else None) ≡ None → test x ≡ false
    fails_here x true is e = cc
    fails_here x false is e = is

    pub none_passes : (xs : List A) → last_that test xs ≡ None → AllByRecursion (λ x. test x ≡ false) xs
    none_passes [] e = tt
    none_passes (x ∷ xs) e =
        let both = neither (last_that test xs) (if test x then Some x else None) e in
        (fails_here x (test x) refl both.other, none_passes xs both.one)

    none_here : (x : A) (b : Bool) → test x ≡ b → b ≡ false → (if b then Some x else None) ≡ None
    none_here x true is e = cc
    none_here x false is e = refl

    pub none_found : (xs : List A) → AllByRecursion (λ x. test x ≡ false) xs → last_that test xs ≡ None
    none_found [] h = refl
    none_found (x ∷ xs) h = ap (λ o. or_else o (if test x then Some x else None)) (none_found xs h.1) ∙ none_here x (test x) refl h.0

    -- one that is found passes, and is among them
    pub record Found (xs : List A) (x : A) : Type 0 where
      pub among : In x xs
      pub passes : test x ≡ true

    found_here : (y : A) (ys : List A) (x : A) (b : Bool) → test y ≡ b → (if b then Some y else None) ≡ Some x → Found (y ∷ ys) x
    found_here y ys x true is e = (let same : y ≡ x = cc in subst_found same)
      where
        subst_found : y ≡ x → Found (y ∷ ys) x
        subst_found same = record { among = (let h : In y (y ∷ ys) = first in rw (sym same) h); passes = rw (sym same) is }
    found_here y ys x false is e = cc

    pub found : (xs : List A) (x : A) → last_that test xs ≡ Some x → Found xs x
    found [] x e = cc
    found (y ∷ ys) x e = by (last_that test ys) refl (λ h. found ys x h)
      where
        by : (o : Option A) → last_that test ys ≡ o → (last_that test ys ≡ Some x → Found ys x) → Found (y ∷ ys) x
        by None is rest = found_here y ys x (test y) refl (ap (λ o. or_else o (if test y then Some y else None)) (sym is) ∙ e)
        by (Some z) is rest =
            let value : Some z ≡ Some x = ap (λ o. or_else o (if test y then Some y else None)) (sym is) ∙ e in
            let behind = rest (is ∙ value) in
            record { among = later behind.among; passes = behind.passes }
