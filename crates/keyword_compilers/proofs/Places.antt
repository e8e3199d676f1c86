-- The place of the first element that passes a test.
use Rattle.std.proofs.Common.{arith, ◌≡◌, ◌≤◌, ℕ, List, Bool, true, false, not, cond, length, nat_lt, None, Some, refl, position}
use Rattle.std.specs.List.{position_or_len}
use Rattle.std.proofs.lemmas.Bool.Decides.{nat_tests}
use Rattle.std.proofs.lemmas.List.Sums.{prefix_len-le-length}

module _ {X : Type 0} (p : X → Bool) where
  pub place_found : (xs : List X) (n : ℕ) → position p xs ≡ Some n → n ≡ position_or_len p xs
  place_found xs n e = by (nat_lt (position_or_len p xs) (length xs)) e
    where
      by : (b : Bool) → cond b (Some (position_or_len p xs)) None ≡ Some n → n ≡ position_or_len p xs
      by true e = cc
      by false e = absurd (cc)

  pub place_behind : (xs : List X) → position p xs ≡ None → length xs ≡ position_or_len p xs
  place_behind xs e = by (nat_lt (position_or_len p xs) (length xs)) refl e
    where
      by : (b : Bool) → nat_lt (position_or_len p xs) (length xs) ≡ b → cond b (Some (position_or_len p xs)) None ≡ None → length xs ≡ position_or_len p xs
      by true is e = absurd (cc)
      by false is e = let most : position_or_len p xs ≤ length xs = prefix_len-le-length (λ x. not (p x)) xs in grind (arith, nat_tests)
