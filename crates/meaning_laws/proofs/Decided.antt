-- Where a reading is not circular it is decided, and the cut reading gives the decided answer.
use Rattle.std.proofs.Common.{◌≡◌, ◌<◌, ◌≤◌, ◌*◌, ℕ, zero, suc, List, [], ◌∷◌, Bool, true, false, Option, Some, None, option_map, length, refl, ap, arith}
use Rattle.schema_meaning.specs.Places.{Spot, Key}
use Rattle.schema_meaning.specs.Questions.{Question, asked_at}
use Rattle.schema_meaning.specs.Rules.{asks}
use Rattle.schema_meaning.specs.Readings.{Reading, rules, Telling, tell_one, tell, by_kind, asked, through, told, Asks, IsNested}
use Rattle.schema_meaning.specs.Circular.{key_at, Leads, starts, inside, follows, IsCircular}
use Rattle.schema_meaning.specs.Cut.{cut_one, cut_all, cut_unless, cut_by_kind, cut_asked, cut_within, cut, is_in_progress, left, AreAll}
use Rattle.meaning_laws.specs.Laws.{CutIsDecided}
use Rattle.meaning_laws.proofs.Known.{all_known-map}
use Rattle.meaning_laws.proofs.Keys.{in_progress-in, left-none}
use Rattle.meaning_laws.proofs.Rooms.{room, room-first, room-inside, left-followed, room-followed}

module _ {S A : Type 0} (t : Telling S A) (r : Reading S) where
  -- all that is asked is known
  pub tell-is : (s : S) (w : Spot) (ask : Question S → Option A) (f : Question S → A) → ((q : Question S) → Asks r s w q → ask q ≡ Some (f q))
      → tell t w (r.schema_path s) ask (rules r s w.value) ≡ Some (cut_all t w (r.schema_path s) f (rules r s w.value))
  tell-is s w ask f h =
      ap (option_map t.of_all) (all_known-map (tell_one t w (r.schema_path s) ask) (cut_one t w (r.schema_path s) f) (rules r s w.value)
      (λ k i. ap (option_map (t.of_rule k w (r.schema_path s))) (all_known-map ask f (asks k) (λ q j. h q (record { keyword = k; stands = i; asked = j })))))

  module _ (from : S) (at : Spot) (all : List Key) (nested : IsNested r) (among : AreAll r from at all) (straight : IsCircular r from at → ⊥) where
    through-cut : (f : S → Spot → Option A) (ks : List Key)
        → ((k : Key) (s : S) (w : Spot) (n : ℕ) → Leads r from at (k ∷ ks) s w → nested.rank s ≤ r.nesting → left (k ∷ ks) all < left ks all → room r all nested (k ∷ ks) s < n
        → f s w ≡ Some (cut_within t r n (k ∷ ks) s w))
        → (l n : ℕ) (s : S) (w : Spot) → Leads r from at ks s w → nested.rank s < l → room r all nested ks s < n → through t r f l s w ≡ Some (cut_within t r n ks s w)
    unfolding through cut_within
    through-cut f ks h zero n s w chain low fits = absurd (omega arith)
    through-cut f ks h (suc l) zero s w chain low fits = absurd (omega arith)
    through-cut f ks h (suc l) (suc n) s w chain low fits =
        tell-is s w (asked f (through t r f l) w) (cut_asked t r (cut_within t r n) ks w)
        (λ q a. one (λ s w c low fits. through-cut f ks h l n s w c low fits) q.follows q refl a)
      where
        on : (b : Bool) (q : Question S) → is_in_progress (key_at r w q) ks ≡ b → q.follows ≡ true → Asks r s w q
            → f q.site (asked_at w q) ≡ Some (cut_unless b (t.of_all []) (cut_within t r n (key_at r w q ∷ ks) q.site (asked_at w q)))
        on true q e g a =
            absurd (straight (record { key = key_at r w q; keys = ks; site = q.site; spot = asked_at w q; chain = follows chain q a g; again = in_progress-in (key_at r w q) ks e }))
        on false q e g a =
            let less : room r all nested (key_at r w q ∷ ks) q.site < room r all nested ks s = room-followed r all nested from at among ks s w chain q a g e in
            h (key_at r w q) q.site (asked_at w q) n (follows chain q a g) (nested.shallow s w q a g) (left-followed r all nested from at among ks s w chain q a g e) (omega (arith, less, fits))

        one : ((s : S) (w : Spot) → Leads r from at ks s w → nested.rank s < l → room r all nested ks s < n → through t r f l s w ≡ Some (cut_within t r n ks s w))
            → (b : Bool) (q : Question S) → q.follows ≡ b → Asks r s w q
            → by_kind b f (through t r f l) q.site (asked_at w q) ≡ Some (cut_by_kind b t r (cut_within t r n) ks w q)
        one again true q g a = on (is_in_progress (key_at r w q) ks) q refl g a
        one again false q g a =
            let falls : nested.rank q.site < nested.rank s = nested.falls s w q a g in
            let less : room r all nested ks q.site < room r all nested ks s = room-inside r all nested ks s w q a g in
            again q.site (asked_at w q) (inside chain q a g) (omega (arith, falls, low)) (omega (arith, less, fits))

    told-cut : (m : ℕ) (ks : List Key) (n : ℕ) (s : S) (w : Spot) → Leads r from at ks s w → nested.rank s ≤ r.nesting → left ks all ≤ m → room r all nested ks s < n
        → told t r m s w ≡ Some (cut_within t r n ks s w)
    unfolding told
    told-cut zero ks n s w chain low few fits =
        through-cut (λ s w. None) ks (λ k s w n c low fewer g. absurd (omega (arith, fewer, few))) (suc r.nesting) n s w chain (omega (arith, low)) fits
    told-cut (suc m) ks n s w chain low few fits =
        through-cut (told t r m) ks (λ k s w n c low fewer g. told-cut m (k ∷ ks) n s w c low (omega (arith, fewer, few)) g) (suc r.nesting) n s w chain (omega (arith, low)) fits

    pub decided : nested.rank from ≤ r.nesting → told t r (length all) from at ≡ Some (cut t r all [] from at)
    unfolding cut
    decided low =
        let few : left [] all ≤ length all = (let e : left [] all ≡ length all = left-none all in omega (arith, e)) in
        told-cut (length all) [] (suc (left [] all) * suc r.nesting) from at starts low few (room-first r all nested from low)

pub cut_is_decided : (S A : Type 0) → CutIsDecided S A
cut_is_decided S A t r s w all nested low among straight = decided t r s w all nested among straight low
