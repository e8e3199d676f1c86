-- What stands behind a `#` at the front of a text.
use borrow.Author.Tests.{eqb-true}
use Rattle.std.proofs.Common.{◌≡◌, ◌≢◌, refl, sym, ap, ℕ, List, [], ◌∷◌, ◌==◌, Bool, true, false, Option, Some, None, option_map, Bor, MatchOption, if◌then◌else◌}
use Rattle.schema_dialects.specs.Passed.{listed}
use Rattle.schema_dialects.specs.Passed.{after_hash}

by_same : (c : Bool) (x : ℕ) (xs : List ℕ) → (x == 35) ≡ c → (x ≡ 35 → ⊥) → [] ≡ (if c then xs ∷ [] else [])
by_same true x xs is n = absurd (n (eqb-true x 35 is))
by_same false x xs is n = refl

hash_none : (bs : List ℕ) → ((rest : List ℕ) → bs ≢ 35 ∷ rest) → [] ≡ after_hash bs
hash_none [] n = refl
hash_none (x ∷ xs) n = by_same (x == 35) x xs refl (λ e. n xs (ap (λ (y : ℕ). y ∷ xs) e))

hash_some : (bs rest : List ℕ) → bs ≡ 35 ∷ rest → rest ∷ [] ≡ after_hash bs
hash_some bs rest e = sym (ap after_hash e)

pub stripped : (bs : List ℕ) (r : Option (Bor (List ℕ))) → MatchOption r ((rest : List ℕ) → bs ≢ 35 ∷ rest) (λ x. bs ≡ 35 ∷ x.now) → listed (option_map (λ x. x.now) r) ≡ after_hash bs
stripped bs None h = hash_none bs h
stripped bs (Some x) h = hash_some bs x.now h
