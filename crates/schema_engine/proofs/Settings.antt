-- Where a question leads from a setting.
use Rattle.std.proofs.Common.{Bor, ◌≡◌, ◌<◌, ◌≤◌, ◌==◌, ℕ, List, [], ◌∷◌, Bool, true, false, ◌&&◌, ◌||◌, bytes_eq, refl, ap, ap₂, ◌∙◌, arith, Option, Some, None}
use Rattle.std.proofs.lemmas.Slice.Eq.{bytes_eq-Decides}
use Rattle.serde_json.specs.Data.{depth}
use Rattle.serde_json.specs.View.{view}
use Rattle.json_values.specs.Parts.{Part, name, index}
use Rattle.schema_meaning.specs.Members.{In, first, later}
use Rattle.schema_meaning.specs.Places.{Spot, Key, Step, stay, to_item, to_member, to_name, after}
use Rattle.schema_meaning.specs.Cut.{same_key, same_path, same_name, is_in_progress}
use Rattle.meaning_laws.proofs.Keys.{same_key-is}
use Rattle.schema_engine.specs.declared.place.Place.{Place}
use Rattle.schema_engine.specs.declared.place.Place.TheVariants as place
use Rattle.schema_engine.specs.Places.{value_at, called_at}
use Rattle.schema_engine.specs.Verdicts.{Setting, Fits, height, key_in, GoesDown}

-- after a step with the same references in progress, and inside a target at the same place
abbrev pub stepped : Setting → Step → Setting
stepped x s = record { depth = x.depth; keys = x.keys; spot = after x.spot s [] }

abbrev pub entered : Setting → ℕ → Setting
entered x t = record { depth = x.depth; keys = key_in x.spot t ∷ x.keys; spot = after x.spot stay [] }

height_of : Key → ℕ
height_of k = height k.path k.called

-- what is higher than all that is in progress is not in progress
pub higher_is_new : (k : Key) (ks : List Key) (h : ℕ) → ((l : Key) → In l ks → height l.path l.called ≤ h) → h < height k.path k.called → is_in_progress k ks ≡ false
higher_is_new k [] h above up = refl
higher_is_new k (l ∷ ks) h above up = by_test (same_key k l) refl (higher_is_new k ks h (λ m i. above m (later i)) up)
  where
    by_test : (b : Bool) → same_key k l ≡ b → is_in_progress k ks ≡ false → (same_key k l || is_in_progress k ks) ≡ false
    by_test true e rest =
        let same : height k.path k.called ≡ height l.path l.called = ap (λ (m : Key). height m.path m.called) (same_key-is k l e) in
        let low : height l.path l.called ≤ h = above l first in
        absurd (omega arith)
    by_test false e rest = rw (e, rest) refl

same_path-itself : (p : List Part) → same_path p p ≡ true
same_path-itself [] = refl
same_path-itself (name a ∷ p) = rw ((bytes_eq-Decides a a).1 refl, same_path-itself p) refl
same_path-itself (index i ∷ p) = let e : (i == i) ≡ true = grind arith in rw (e, same_path-itself p) refl

same_name-itself : (a : Option (List ℕ)) → same_name a a ≡ true
same_name-itself None = refl
same_name-itself (Some a) = (bytes_eq-Decides a a).1 refl

bytes_one : (n t : ℕ) → bytes_eq (n ∷ []) (t ∷ []) ≡ (n == t)
bytes_one n t = grind arith

and_true : (b : Bool) → (b && true && true && true) ≡ b
and_true true = refl
and_true false = refl

-- at one spot keys differ by their numbers alone
pub same_key_in : (w : Spot) (n t : ℕ) → same_key (key_in w n) (key_in w t) ≡ (n == t)
same_key_in w n t = rw (bytes_one n t, same_path-itself w.path, same_name-itself w.called) (and_true (n == t))

module _ (p : Place) (progress : List ℕ) (x : Setting) (fits : Fits p progress x) where
  pub stay_fits : Fits p progress (stepped x stay)
  stay_fits = record { value = fits.value; called = fits.called; here = fits.here; above = fits.above }

  pub target_fits : (t : ℕ) → Fits p (t ∷ progress) (entered x t)
  target_fits t = record {
    value = fits.value;
    called = fits.called;
    here = λ n. ap₂ (λ a b. a || b) (same_key_in x.spot n t) (fits.here n);
    above = λ k i. among k i;
  }
    where
      among : (k : Key) → In k (key_in x.spot t ∷ x.keys) → height k.path k.called ≤ height x.spot.path x.spot.called
      among k first = omega arith
      among k (later i) = fits.above k i

  pub item_fits : (v : _) (i : ℕ) → Fits (place.Value v) [] (stepped x (to_item i (view v.now)))
  item_fits v i = record {
    value = refl;
    called = refl;
    here = λ n. higher_is_new (key_in (after x.spot (to_item i (view v.now)) []) n) x.keys (height x.spot.path x.spot.called) fits.above (up x.spot.called);
    above = λ k j. (let low : height k.path k.called ≤ height x.spot.path x.spot.called = fits.above k j in let h = up x.spot.called in omega (arith, h));
  }
    where
      up : (c : Option (List ℕ)) → height x.spot.path c < height (index i ∷ x.spot.path) None
      up None = omega arith
      up (Some s) = omega arith

  pub member_fits : (v : _) (k : List ℕ) → Fits (place.Value v) [] (stepped x (to_member k (view v.now)))
  member_fits v k = record {
    value = refl;
    called = refl;
    here = λ n. higher_is_new (key_in (after x.spot (to_member k (view v.now)) []) n) x.keys (height x.spot.path x.spot.called) fits.above (up x.spot.called);
    above = λ l j. (let low : height l.path l.called ≤ height x.spot.path x.spot.called = fits.above l j in let h = up x.spot.called in omega (arith, h));
  }
    where
      up : (c : Option (List ℕ)) → height x.spot.path c < height (name k ∷ x.spot.path) None
      up None = omega arith
      up (Some s) = omega arith

-- a name has no depth, so only a value is asked of its names
not_called : (p : Place) → 0 < depth (value_at p) → called_at p ≡ None
not_called (place.Value v) h = refl
not_called (place.Name s) h = absurd (omega arith)

module _ (p : Place) (progress : List ℕ) (x : Setting) (fits : Fits p progress x) where
  pub name_fits : (s : Bor (List ℕ)) → GoesDown (value_at p) (to_name s.now) → Fits (place.Name s) [] (stepped x (to_name s.now))
  name_fits s down = record {
    value = refl;
    called = refl;
    here = λ n. higher_is_new (key_in (after x.spot (to_name s.now) []) n) x.keys (height x.spot.path x.spot.called) fits.above up;
    above = λ k j. (let low : height k.path k.called ≤ height x.spot.path x.spot.called = fits.above k j in omega (arith, up));
  }
    where
      uncalled : x.spot.called ≡ None
      uncalled = fits.called ∙ not_called p down

      up : height x.spot.path x.spot.called < height x.spot.path (Some s.now)
      up = rw uncalled (omega arith)
