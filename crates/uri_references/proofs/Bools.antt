-- Facts on `&&` and `||`.
use Rattle.std.proofs.Common.{◌≡◌, ◌&&◌, ◌||◌, Bool, true, false, not, refl, sym, ap, ◌∙◌, ◌⊎◌, inl, inr}

pub true_false : true ≡ false → ⊥
true_false e = cc

pub and_left : (a b : Bool) → (a && b) ≡ true → a ≡ true
and_left true b e = refl
and_left false b e = e

pub and_right : (a b : Bool) → (a && b) ≡ true → b ≡ true
and_right true b e = e
and_right false b e = absurd (true_false (sym e))

pub and_both : (a b : Bool) → a ≡ true → b ≡ true → (a && b) ≡ true
and_both a b e f = ap (λ t. t && b) e ∙ f

pub or_either : (a b : Bool) → (a || b) ≡ true → (a ≡ true) ⊎ (b ≡ true)
or_either true b e = inl refl
or_either false b e = inr e

pub or_left : (a b : Bool) → a ≡ true → (a || b) ≡ true
or_left a b e = ap (λ t. t || b) e

pub or_right : (a b : Bool) → b ≡ true → (a || b) ≡ true
or_right true b e = refl
or_right false b e = e

pub or_none_left : (a b : Bool) → (a || b) ≡ false → a ≡ false
or_none_left true b e = e
or_none_left false b e = refl

pub or_none_right : (a b : Bool) → (a || b) ≡ false → b ≡ false
or_none_right true b e = absurd (true_false e)
or_none_right false b e = e

pub not_true : (a : Bool) → a ≡ false → not a ≡ true
not_true a e = ap not e

pub decided : (a : Bool) → (a ≡ true) ⊎ (a ≡ false)
decided true = inl refl
decided false = inr refl

pub not_false : (a : Bool) → not a ≡ true → a ≡ false
not_false true e = sym e
not_false false e = refl

pub and-three : (a b c : Bool) → (a && (b && c)) ≡ ((a && b) && c)
and-three true b c = refl
and-three false b c = refl
