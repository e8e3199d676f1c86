-- Unfoldings spent at every question decide the same as unfoldings spent at references alone.
use Rattle.std.proofs.Common.{◌≡◌, ◌<◌, ◌≤◌, ◌+◌, ℕ, zero, suc, Bool, true, false, Option, None, refl, arith}
use Rattle.std.proofs.Math.Nat.{suc-add}
use Rattle.schema_meaning.specs.Places.{Spot}
use Rattle.schema_meaning.specs.Questions.{Question, asked_at}
use Rattle.schema_meaning.specs.Readings.{Reading, Telling, by_kind, asked, through, told, unfolded, Asks, IsNested}
use Rattle.meaning_laws.specs.Laws.{UnfoldedIsTold}
use Rattle.meaning_laws.proofs.Known.{Below, nothing_below}
use Rattle.meaning_laws.proofs.Stays.{Below-tell}

module _ {S A : Type 0} (t : Telling S A) (r : Reading S) where
  pub unfolded-le : (n m : ℕ) → n ≤ m → (s : S) (w : Spot) → Below (unfolded t r n s w) (unfolded t r m s w)
  unfolding unfolded
  unfolded-le zero m h s w x e = cc
  unfolded-le (suc n) zero h s w x e = absurd (omega (arith, h))
  unfolded-le (suc n) (suc m) h s w x e =
      Below-tell t r s w (λ q. unfolded t r n q.site (asked_at w q)) (λ q. unfolded t r m q.site (asked_at w q))
      (λ q i. unfolded-le n m (omega (arith, h)) q.site (asked_at w q)) x e

  -- ---- from references alone

  one_way : (b : Bool) (f g : S → Spot → Option A) (m : ℕ) (s : S) (w : Spot) → Below (f s w) (unfolded t r m s w) → Below (g s w) (unfolded t r m s w)
      → Below (by_kind b f g s w) (unfolded t r m s w)
  one_way true f g m s w p q = p
  one_way false f g m s w p q = q

  through-unfolded : (f : S → Spot → Option A) (m : ℕ) → ((s : S) (w : Spot) → Below (f s w) (unfolded t r m s w))
      → (l : ℕ) (s : S) (w : Spot) → Below (through t r f l s w) (unfolded t r (l + m) s w)
  unfolding through unfolded
  through-unfolded f m h zero s w x e = cc
  through-unfolded f m h (suc l) s w x e =
      rw suc-add (Below-tell t r s w (asked f (through t r f l) w) (λ q. unfolded t r (l + m) q.site (asked_at w q))
      (λ q i. one_way q.follows f (through t r f l) (l + m) q.site (asked_at w q)
      (λ y g. unfolded-le m (l + m) (omega arith) q.site (asked_at w q) y (h q.site (asked_at w q) y g))
      (through-unfolded f m h l q.site (asked_at w q))) x e)

  pub enough : ℕ → ℕ
  enough zero = suc r.nesting + 0
  enough (suc n) = suc r.nesting + enough n

  pub told-unfolded : (n : ℕ) (s : S) (w : Spot) → Below (told t r n s w) (unfolded t r (enough n) s w)
  unfolding told enough
  told-unfolded zero s w = through-unfolded (λ s w. None) 0 (λ s w. nothing_below (unfolded t r 0 s w)) (suc r.nesting) s w
  told-unfolded (suc n) s w = through-unfolded (told t r n) (enough n) (told-unfolded n) (suc r.nesting) s w

  -- ---- and back

  module _ (nested : IsNested r) where
    unfolded-through : (f : S → Spot → Option A) (m : ℕ) → ((s : S) (w : Spot) → nested.rank s ≤ r.nesting → Below (unfolded t r m s w) (f s w))
        → (n : ℕ) → n ≤ suc m → (l : ℕ) (s : S) (w : Spot) → nested.rank s < l → Below (unfolded t r n s w) (through t r f l s w)
    unfolding through unfolded
    unfolded-through f m h zero few l s w low x e = cc
    unfolded-through f m h (suc n) few zero s w low x e = absurd (omega (arith, low))
    unfolded-through f m h (suc n) few (suc l) s w low x e =
        Below-tell t r s w (λ q. unfolded t r n q.site (asked_at w q)) (asked f (through t r f l) w)
        (λ q i. one (λ s w low. unfolded-through f m h n (omega (arith, few)) l s w low) q.follows q refl i) x e
      where
        one : ((s : S) (w : Spot) → nested.rank s < l → Below (unfolded t r n s w) (through t r f l s w))
            → (b : Bool) (q : Question S) → q.follows ≡ b → Asks r s w q
            → Below (unfolded t r n q.site (asked_at w q)) (by_kind b f (through t r f l) q.site (asked_at w q))
        one again true q g i y d =
            h q.site (asked_at w q) (nested.shallow s w q i g) y (unfolded-le n m (omega (arith, few)) q.site (asked_at w q) y d)
        one again false q g i y d = let less : nested.rank q.site < nested.rank s = nested.falls s w q i g in again q.site (asked_at w q) (omega (arith, less, low)) y d

    pub unfolded-told : (n : ℕ) (s : S) (w : Spot) → nested.rank s ≤ r.nesting → Below (unfolded t r n s w) (told t r n s w)
    unfolding told unfolded
    unfolded-told zero s w low x e = cc
    unfolded-told (suc n) s w low x e =
        unfolded-through (told t r n) n (unfolded-told n) (suc n) (omega arith) (suc r.nesting) s w (omega (arith, low)) x e

pub unfolded_is_told : (S A : Type 0) → UnfoldedIsTold S A
unfolded_is_told S A t r n s w x = (λ e. (enough t r n, told-unfolded t r n s w x e), λ nested low e. unfolded-told t r nested n s w low x e)
