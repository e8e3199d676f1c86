-- What is true, and what is not.
use Rattle.std.proofs.Common.{◌≡◌, ℕ, List, Bool, true, false, not, ◌&&◌, ◌||◌, refl, sym, ap, ◌∙◌, bytes_eq}
use Rattle.std.proofs.lemmas.Slice.Eq.{bytes_eq-Decides}

pub same : (a b : List ℕ) → bytes_eq a b ≡ true → a ≡ b
same a b e = (bytes_eq-Decides a b).0 e

pub self : (a : List ℕ) → bytes_eq a a ≡ true
self a = (bytes_eq-Decides a a).1 refl

pub left-false : (a b : Bool) → (a || b) ≡ false → a ≡ false
left-false true b e = e
left-false false b e = refl

pub right-false : (a b : Bool) → (a || b) ≡ false → b ≡ false
right-false true b e = absurd (cc (e))
right-false false b e = e

-- what is found in neither of two is not found in both together
pub neither : (a b : Bool) → a ≡ false → b ≡ false → (a || b) ≡ false
neither a b e f = ap (λ c. c || b) e ∙ f

pub both : (a b : Bool) → a ≡ false → b ≡ true → (not a && b) ≡ true
both a b e f = ap (λ c. not c && b) e ∙ f

pub not-true : (b : Bool) → (b ≡ true → b ≡ false) → b ≡ false
not-true true h = h refl
not-true false h = refl

pub clash : {P : Type 0} (b : Bool) → b ≡ true → b ≡ false → P
clash b e f = absurd (cc (sym e ∙ f))

pub or-elim : {P : Type 0} (a b : Bool) → (a || b) ≡ true → (a ≡ true → P) → (b ≡ true → P) → P
or-elim true b h p q = p refl
or-elim false b h p q = q h

pub or-left : (a b : Bool) → a ≡ true → (a || b) ≡ true
or-left a b e = ap (λ c. c || b) e

pub or-right : (a b : Bool) → b ≡ true → (a || b) ≡ true
or-right true b e = refl
or-right false b e = e

pub and-left : (a b : Bool) → (not a && b) ≡ true → a ≡ false
and-left true b e = sym e
and-left false b e = refl

pub and-right : (a b : Bool) → (not a && b) ≡ true → b ≡ true
and-right true b e = absurd (cc (e))
and-right false b e = e
