-- Deeper than `cut` goes nothing changes.
use Rattle.std.proofs.Common.{◌≡◌, ◌<◌, ◌≤◌, ◌*◌, ℕ, zero, suc, List, [], ◌∷◌, Bool, true, false, refl, ap, arith}
use Rattle.schema_meaning.specs.Places.{Spot, Key}
use Rattle.schema_meaning.specs.Questions.{Question, asked_at}
use Rattle.schema_meaning.specs.Rules.{asks}
use Rattle.schema_meaning.specs.Readings.{Reading, rules, Telling, Asks, IsNested}
use Rattle.schema_meaning.specs.Circular.{key_at, Leads, starts, inside, follows}
use Rattle.schema_meaning.specs.Cut.{cut_one, cut_all, cut_unless, cut_by_kind, cut_asked, cut_within, cut, is_in_progress, left, AreAll}
use Rattle.meaning_laws.specs.Laws.{CutIsEnough}
use Rattle.meaning_laws.proofs.Known.{map_in}
use Rattle.meaning_laws.proofs.Rooms.{room, room-first, room-inside, room-followed}

module _ {S A : Type 0} (t : Telling S A) (r : Reading S) where
  -- where each question that the schema asks is answered the same
  pub cut_all-same : (s : S) (w : Spot) (f g : Question S → A) → ((q : Question S) → Asks r s w q → f q ≡ g q)
      → cut_all t w (r.schema_path s) f (rules r s w.value) ≡ cut_all t w (r.schema_path s) g (rules r s w.value)
  cut_all-same s w f g h =
      ap t.of_all (map_in (cut_one t w (r.schema_path s) f) (cut_one t w (r.schema_path s) g) (rules r s w.value)
      (λ k i. ap (t.of_rule k w (r.schema_path s)) (map_in f g (asks k) (λ q j. h q (record { keyword = k; stands = i; asked = j })))))

  module _ (from : S) (at : Spot) (all : List Key) (nested : IsNested r) (among : AreAll r from at all) where
    abbrev Same : ℕ → ℕ → Type 0
    Same n m = (ks : List Key) (s : S) (w : Spot) → Leads r from at ks s w → room r all nested ks s < n → room r all nested ks s < m
        → cut_within t r n ks s w ≡ cut_within t r m ks s w

    cut-same : (n m : ℕ) → Same n m
    unfolding cut_within
    cut-same zero m ks s w chain fits fits' = absurd (omega arith)
    cut-same (suc n) zero ks s w chain fits fits' = absurd (omega arith)
    cut-same (suc n) (suc m) ks s w chain fits fits' =
        cut_all-same s w (cut_asked t r (cut_within t r n) ks w) (cut_asked t r (cut_within t r m) ks w)
        (λ q a. one (cut-same n m) q.follows q refl a)
      where
        on : Same n m → (b : Bool) (q : Question S) → is_in_progress (key_at r w q) ks ≡ b → q.follows ≡ true → Asks r s w q
            → cut_unless b (t.of_all []) (cut_within t r n (key_at r w q ∷ ks) q.site (asked_at w q))
            ≡ cut_unless b (t.of_all []) (cut_within t r m (key_at r w q ∷ ks) q.site (asked_at w q))
        on again true q e g a = refl
        on again false q e g a =
            let less : room r all nested (key_at r w q ∷ ks) q.site < room r all nested ks s = room-followed r all nested from at among ks s w chain q a g e in
            again (key_at r w q ∷ ks) q.site (asked_at w q) (follows chain q a g) (omega (arith, less, fits)) (omega (arith, less, fits'))

        one : Same n m → (b : Bool) (q : Question S) → q.follows ≡ b → Asks r s w q
            → cut_by_kind b t r (cut_within t r n) ks w q ≡ cut_by_kind b t r (cut_within t r m) ks w q
        one again true q g a = on again (is_in_progress (key_at r w q) ks) q refl g a
        one again false q g a =
            let less : room r all nested ks q.site < room r all nested ks s = room-inside r all nested ks s w q a g in
            again ks q.site (asked_at w q) (inside chain q a g) (omega (arith, less, fits)) (omega (arith, less, fits'))

    pub enough : nested.rank from ≤ r.nesting → (n : ℕ) → suc (left [] all) * suc r.nesting ≤ n → cut_within t r n [] from at ≡ cut t r all [] from at
    unfolding cut
    enough low n deep =
        let fits : room r all nested [] from < suc (left [] all) * suc r.nesting = room-first r all nested from low in
        cut-same n (suc (left [] all) * suc r.nesting) [] from at starts (omega (arith, fits, deep)) fits

pub cut_is_enough : (S A : Type 0) → CutIsEnough S A
cut_is_enough S A t r s w all nested low among n deep = enough t r s w all nested among low n deep
