-- Where references of values are in progress, no key of a name is, so each is left.
use Rattle.std.proofs.Common.{◌≡◌, ◌≤◌, ℕ, suc, List, [], ◌∷◌, ◌++◌, Bool, true, false, ◌&&◌, ◌||◌, map, Option, Some, None, refl, arith}
use Rattle.std.specs.List.{flat_map}
use Rattle.serde_json.specs.Data.{string}
use Rattle.json_values.specs.Parts.{Part}
use Rattle.schema_meaning.specs.Members.{In, first, later}
use Rattle.schema_meaning.specs.Places.{SchemaPlace, Key}
use Rattle.schema_meaning.specs.Cut.{same_name, same_key, is_in_progress, one_unless, left}
use Rattle.schema_definitions.specs.AllKeys.{spots_in, places_of}
use Rattle.meaning_laws.proofs.Obliged.{in_map}
use Rattle.reading_laws.specs.NameLaws.{AreUncalled, HaveRoomAmong, HaveRoom}

-- the key of a place of documents and a place of an instance
abbrev paired : SchemaPlace → List Part × Option (List ℕ) → Key
paired p spot = record { target = p; path = spot.0; called = spot.1 }

unlike_names : (k : List ℕ) (a b : Option (List ℕ)) → a ≡ Some k → b ≡ None → same_name a b ≡ false
unlike_names k None b e f = cc
unlike_names k (Some l) None e f = refl
unlike_names k (Some l) (Some m) e f = cc

and_false : (b c : Bool) → c ≡ false → (b && c) ≡ false
and_false true c e = e
and_false false c e = refl

or_false : (b c : Bool) → b ≡ false → c ≡ false → (b || c) ≡ false
or_false true c e f = cc
or_false false c e f = f

-- the key of a name is not among those of values
pub called_is_new : (key : Key) (k : List ℕ) (outer : List Key) → key.called ≡ Some k → AreUncalled outer → is_in_progress key outer ≡ false
called_is_new key k [] e free = refl
called_is_new key k (l ∷ outer) e free =
    or_false (same_key key l) (is_in_progress key outer) (and_false _ (same_name key.called l.called) (unlike_names k key.called l.called e (free l first)))
    (called_is_new key k outer e (λ other i. free other (later i)))

-- ---- how many are left

no_fewer : (b : Bool) (m n : ℕ) → m ≤ n → m ≤ one_unless b n
no_fewer true m n h = h
no_fewer false m n h = omega (arith, h)

module _ (outer : List Key) where
  left_behind : (xs ys : List Key) → left outer ys ≤ left outer (xs ++ ys)
  left_behind [] ys = omega arith
  left_behind (x ∷ xs) ys = no_fewer (is_in_progress x outer) _ _ (left_behind xs ys)

  one_more : (key : Key) (xs ys : List Key) → In key xs → is_in_progress key outer ≡ false → suc (left outer ys) ≤ left outer (xs ++ ys)
  one_more key [] ys i new = elim i [ ]
  one_more key (x ∷ xs) ys first new = rw new (let h = left_behind xs ys in omega (arith, h))
  one_more key (x ∷ xs) ys (later i) new = no_fewer (is_in_progress x outer) _ _ (one_more key xs ys i new)

  at_each_place : (spots : List (List Part × Option (List ℕ))) (at path : List Part) (k : List ℕ) → AreUncalled outer → In (path, Some k) spots → (ps : List SchemaPlace)
      → left [] (flat_map (λ p. map (paired p) (spots_in at (string k))) ps) ≤ left outer (flat_map (λ p. map (paired p) spots) ps)
  at_each_place spots at path k free i [] = omega arith
  at_each_place spots at path k free i (p ∷ ps) =
      let more : suc (left outer (flat_map (λ p. map (paired p) spots) ps)) ≤ left outer (flat_map (λ p. map (paired p) spots) (p ∷ ps)) =
      one_more (paired p (path, Some k)) (map (paired p) spots) (flat_map (λ p. map (paired p) spots) ps)
      (in_map (paired p) (path, Some k) spots i) (called_is_new (paired p (path, Some k)) k outer refl free) in
      let rest = at_each_place spots at path k free i ps in
      omega (arith, more, rest)

pub have_room_among : HaveRoomAmong
have_room_among docs spots at path k outer free i = at_each_place outer spots at path k free i (places_of docs)

pub have_room : HaveRoom
have_room docs whole path k outer free i = have_room_among docs (spots_in [] whole) [] path k outer free i
