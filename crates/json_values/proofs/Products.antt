-- Multiples are products.
use borrow.Author.Tests.{eqb-true, eq-eqb}
use Rattle.std.proofs.Common.{◌≡◌, ℕ, zero, suc, ◌*◌, ◌/◌, ◌%◌, ◌<◌, true, ℤ, pos, negsuc, neg_ℤ, refl, sym, ap, ◌∙◌, arith}
use Rattle.std.proofs.Math.Nat.{mul-mod_left}
use Rattle.std.specs.Prelude.{◌*ℤ◌, unsigned_abs}
use Rattle.json_values.specs.Numbers.{is_multiple}

below_zero : (n a q : ℕ) → q * n ≡ suc a → (k : ℤ) × (k *ℤ pos n ≡ negsuc a)
below_zero n a zero e = absurd (omega arith)
below_zero n a (suc q) e = (negsuc q, ap (λ x. neg_ℤ (pos x)) e)

quotient : (n a : ℕ) → 0 < n → a % n ≡ 0 → a / n * n ≡ a
quotient n a l h = omega arith

pub product_of : (n : ℕ) (z : ℤ) → 0 < n → is_multiple n z ≡ true → (k : ℤ) × (k *ℤ pos n ≡ z)
product_of n (pos a) l h = (pos (a / n), ap pos (quotient n a l (eqb-true (a % n) 0 h)))
product_of n (negsuc a) l h = below_zero n a (suc a / n) (quotient n (suc a) l (eqb-true (suc a % n) 0 h))

size_below_zero : (m : ℕ) → unsigned_abs (neg_ℤ (pos m)) ≡ m
size_below_zero zero = refl
size_below_zero (suc m) = refl

multiple_of : (n : ℕ) (k : ℤ) → is_multiple n (k *ℤ pos n) ≡ true
multiple_of n (pos a) = eq-eqb (a * n % n) 0 (mul-mod_left a n)
multiple_of n (negsuc a) = eq-eqb (unsigned_abs (neg_ℤ (pos (suc a * n))) % n) 0 (ap (λ x. x % n) (size_below_zero (suc a * n)) ∙ mul-mod_left (suc a) n)

pub multiple_from : (n : ℕ) (z : ℤ) → (k : ℤ) × (k *ℤ pos n ≡ z) → is_multiple n z ≡ true
multiple_from n z f = ap (is_multiple n) (sym f.1) ∙ multiple_of n f.0
