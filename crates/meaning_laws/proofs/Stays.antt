-- A decided answer stays with more unfoldings.
use Rattle.std.proofs.Common.{◌+◌, ℕ, zero, suc, Bool, true, false, Option, None, zero-add}
use Rattle.std.proofs.Math.Nat.{suc-add}
use Rattle.schema_meaning.specs.Places.{Spot}
use Rattle.schema_meaning.specs.Questions.{Question, asked_at}
use Rattle.schema_meaning.specs.Rules.{asks}
use Rattle.schema_meaning.specs.Readings.{Reading, rules, Telling, tell_one, tell, by_kind, asked, through, told, Asks}
use Rattle.meaning_laws.specs.Laws.{DecidedStays}
use Rattle.meaning_laws.proofs.Known.{Below, nothing_below, Below-option_map, Below-all_in}

module _ {S A : Type 0} (t : Telling S A) (r : Reading S) where
  -- where each question that the schema asks is answered the same
  pub Below-tell : (s : S) (w : Spot) (f g : Question S → Option A) → ((q : Question S) → Asks r s w q → Below (f q) (g q))
      → Below (tell t w (r.schema_path s) f (rules r s w.value)) (tell t w (r.schema_path s) g (rules r s w.value))
  Below-tell s w f g h =
      Below-option_map t.of_all _ _ (Below-all_in (tell_one t w (r.schema_path s) f) (tell_one t w (r.schema_path s) g) (rules r s w.value)
      (λ k i. Below-option_map (t.of_rule k w (r.schema_path s)) _ _ (Below-all_in f g (asks k) (λ q j. h q (record { keyword = k; stands = i; asked = j })))))

  Below-by_kind : (b : Bool) (f g h k : S → Spot → Option A) (s : S) (w : Spot) → Below (f s w) (g s w) → Below (h s w) (k s w) → Below (by_kind b f h s w) (by_kind b g k s w)
  Below-by_kind true f g h k s w p q = p
  Below-by_kind false f g h k s w p q = q

  pub Below-asked : (f g h k : S → Spot → Option A) → ((s : S) (w : Spot) → Below (f s w) (g s w)) → ((s : S) (w : Spot) → Below (h s w) (k s w))
      → (w : Spot) (q : Question S) → Below (asked f h w q) (asked g k w q)
  Below-asked f g h k p p' w q = Below-by_kind q.follows f g h k q.site (asked_at w q) (p q.site (asked_at w q)) (p' q.site (asked_at w q))

  pub Below-through : (f g : S → Spot → Option A) → ((s : S) (w : Spot) → Below (f s w) (g s w)) → (l : ℕ) (s : S) (w : Spot)
      → Below (through t r f l s w) (through t r g l s w)
  unfolding through
  Below-through f g h zero s w x e = e
  Below-through f g h (suc l) s w x e =
      Below-tell s w (asked f (through t r f l) w) (asked g (through t r g l) w)
      (λ q i. Below-asked f g (through t r f l) (through t r g l) h (Below-through f g h l) w q) x e

  -- one more level of subschemas
  pub through-suc : (f : S → Spot → Option A) (l : ℕ) (s : S) (w : Spot) → Below (through t r f l s w) (through t r f (suc l) s w)
  unfolding through
  through-suc f zero s w x e = cc
  through-suc f (suc l) s w x e =
      Below-tell s w (asked f (through t r f l) w) (asked f (through t r f (suc l)) w)
      (λ q i. Below-asked f f (through t r f l) (through t r f (suc l)) (λ s w x e. e) (through-suc f l) w q) x e

  pub told-suc : (n : ℕ) (s : S) (w : Spot) → Below (told t r n s w) (told t r (suc n) s w)
  unfolding told
  told-suc zero s w x e = Below-through (λ s w. None) (told t r zero) (λ s w. nothing_below (told t r zero s w)) (suc r.nesting) s w x e
  told-suc (suc n) s w x e = Below-through (told t r n) (told t r (suc n)) (told-suc n) (suc r.nesting) s w x e

  pub told-more : (more n : ℕ) (s : S) (w : Spot) → Below (told t r n s w) (told t r (more + n) s w)
  told-more zero n s w x e = rw zero-add e
  told-more (suc k) n s w x e = rw suc-add (told-suc (k + n) s w x (told-more k n s w x e))

  -- what is told asks only what is told
  pub told-asks : (n : ℕ) (s : S) (w : Spot) → Below (told t r n s w) (tell t w (r.schema_path s) (λ q. told t r n q.site (asked_at w q)) (rules r s w.value))
  unfolding told through
  told-asks zero s w x e =
      Below-tell s w (asked (λ s w. None) (through t r (λ s w. None) r.nesting) w) (λ q. told t r zero q.site (asked_at w q))
      (λ q i. one q.follows q.site (asked_at w q)) x e
    where
      one : (b : Bool) (s : S) (w : Spot) → Below (by_kind b (λ s w. None) (through t r (λ s w. None) r.nesting) s w) (told t r zero s w)
      one true s w = nothing_below (told t r zero s w)
      one false s w = through-suc (λ s w. None) r.nesting s w
  told-asks (suc n) s w x e =
      Below-tell s w (asked (told t r n) (through t r (told t r n) r.nesting) w) (λ q. told t r (suc n) q.site (asked_at w q))
      (λ q i. one q.follows q.site (asked_at w q)) x e
    where
      one : (b : Bool) (s : S) (w : Spot) → Below (by_kind b (told t r n) (through t r (told t r n) r.nesting) s w) (told t r (suc n) s w)
      one true s w = told-suc n s w
      one false s w = through-suc (told t r n) r.nesting s w

pub decided_stays : (S A : Type 0) → DecidedStays S A
decided_stays S A t r more n s w x e = told-more t r more n s w x e
