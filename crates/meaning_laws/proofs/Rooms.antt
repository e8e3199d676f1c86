-- How many questions are still to come at most on a chain whose references in progress are known.
use Rattle.std.proofs.Common.{◌≡◌, ◌<◌, ◌≤◌, ◌+◌, ◌*◌, ℕ, suc, List, [], ◌∷◌, true, false, arith}
use Rattle.std.proofs.Math.Nat.{mul-le-mul_right}
use Rattle.schema_meaning.specs.Places.{Spot, Key}
use Rattle.schema_meaning.specs.Questions.{Question}
use Rattle.schema_meaning.specs.Readings.{Reading, Asks, IsNested}
use Rattle.schema_meaning.specs.Circular.{key_at, Leads}
use Rattle.schema_meaning.specs.Cut.{is_in_progress, left, AreAll}
use Rattle.meaning_laws.proofs.Keys.{left_falls}

room_falls : (a b m x y : ℕ) → a < b → x ≤ m → a * suc m + x < b * suc m + y
room_falls a b m x y h i = let p : suc a * suc m ≤ b * suc m = mul-le-mul_right (suc m) h in omega (arith, p, i)

room_fits : (a m x : ℕ) → x ≤ m → a * suc m + x < suc a * suc m
room_fits a m x i = omega (arith, i)

module _ {S : Type 0} (r : Reading S) (all : List Key) (nested : IsNested r) where
  pub room : List Key → S → ℕ
  room ks s = left ks all * suc r.nesting + nested.rank s

  -- the depth that `cut` goes to
  pub room-first : (s : S) → nested.rank s ≤ r.nesting → room [] s < suc (left [] all) * suc r.nesting
  unfolding room
  room-first s low = room_fits (left [] all) r.nesting (nested.rank s) low

  pub room-inside : (ks : List Key) (s : S) (w : Spot) (q : Question S) → Asks r s w q → q.follows ≡ false → room ks q.site < room ks s
  unfolding room
  room-inside ks s w q a g = let falls : nested.rank q.site < nested.rank s = nested.falls s w q a g in omega (arith, falls)

  module _ (from : S) (at : Spot) (among : AreAll r from at all) where
    pub left-followed : (ks : List Key) (s : S) (w : Spot) → Leads r from at ks s w → (q : Question S) → Asks r s w q → q.follows ≡ true
        → is_in_progress (key_at r w q) ks ≡ false → left (key_at r w q ∷ ks) all < left ks all
    left-followed ks s w chain q a g new = left_falls (key_at r w q) ks all (among.key ks s w chain q a g) new

    pub room-followed : (ks : List Key) (s : S) (w : Spot) → Leads r from at ks s w → (q : Question S) → Asks r s w q → q.follows ≡ true
        → is_in_progress (key_at r w q) ks ≡ false → room (key_at r w q ∷ ks) q.site < room ks s
    unfolding room
    room-followed ks s w chain q a g new =
        room_falls (left (key_at r w q ∷ ks) all) (left ks all) r.nesting (nested.rank q.site) (nested.rank s) (left-followed ks s w chain q a g new) (nested.shallow s w q a g)
