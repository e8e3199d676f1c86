-- The positions of documents, where one is added and where it takes the place of another.
use Rattle.std.proofs.Common.{◌≡◌, ◌∙◌, ◌++◌, ◌<◌, ℕ, suc, List, [], ◌∷◌, Bool, true, false, if◌then◌else◌, Option, Some, None, ap, arith, bytes_eq, length, refl, sym, true≢false, ◌⊎◌, inl, inr, slice_set}
use Rattle.std.proofs.lemmas.Slice.Eq.{bytes_eq-Decides}
use Rattle.std.specs.Option.{option_map}
use Rattle.document_sources.specs.Given.{Given, position_in, with_given}

-- one more than a position
behind_one : (o : Option ℕ) (i : ℕ) → option_map suc o ≡ Some i → (j : ℕ) × (o ≡ Some j) × (i ≡ suc j)
behind_one None i e = absurd cc
behind_one (Some j) i e = (j, refl, cc)

-- a document is at the front, or behind it
front_or_behind : (b : Bool) (o : Option ℕ) (i : ℕ) → (if b then Some 0 else option_map suc o) ≡ Some i
    → ((b ≡ true) × (i ≡ 0)) ⊎ ((b ≡ false) × ((j : ℕ) × (o ≡ Some j) × (i ≡ suc j)))
front_or_behind true o i e = inl (refl, cc)
front_or_behind false o i e = inr (refl, behind_one o i e)

nowhere : (b : Bool) (o : Option ℕ) → (if b then Some 0 else option_map suc o) ≡ None → (b ≡ false) × (o ≡ None)
nowhere true o e = absurd cc
nowhere false None e = (refl, refl)
nowhere false (Some j) e = absurd cc

-- ---- a document in the place of another

pub position-within : (gs : List Given) (q : List ℕ) (i : ℕ) → position_in gs q ≡ Some i → i < length gs
position-within [] q i e = absurd cc
position-within (h ∷ hs) q i e = by_place (front_or_behind (bytes_eq h.uri q) (position_in hs q) i e) (position-within hs q)
  where
    by_place : ((bytes_eq h.uri q ≡ true) × (i ≡ 0)) ⊎ ((bytes_eq h.uri q ≡ false) × ((j : ℕ) × (position_in hs q ≡ Some j) × (i ≡ suc j)))
        → ((j : ℕ) → position_in hs q ≡ Some j → j < length hs) → i < suc (length hs)
    by_place (inl front) below = omega (arith, front.1)
    by_place (inr behind) below = omega (arith, below behind.1.0 behind.1.1, behind.1.2)

pub with_given-placed : (gs : List Given) (g : Given) (i : ℕ) → position_in gs g.uri ≡ Some i → slice_set gs i g ≡ with_given gs g
with_given-placed [] g i e = absurd cc
with_given-placed (h ∷ hs) g i e = by_place (front_or_behind (bytes_eq h.uri g.uri) (position_in hs g.uri) i e) (with_given-placed hs g)
  where
    by_place : ((bytes_eq h.uri g.uri ≡ true) × (i ≡ 0)) ⊎ ((bytes_eq h.uri g.uri ≡ false) × ((j : ℕ) × (position_in hs g.uri ≡ Some j) × (i ≡ suc j)))
        → ((j : ℕ) → position_in hs g.uri ≡ Some j → slice_set hs j g ≡ with_given hs g)
        → slice_set (h ∷ hs) i g ≡ (if bytes_eq h.uri g.uri then g ∷ hs else h ∷ with_given hs g)
    by_place (inl front) more = rw (front.0, front.1) refl
    by_place (inr behind) more = rw (behind.0, behind.1.2) (ap (λ t. h ∷ t) (more behind.1.0 behind.1.1))

pub position_in-placed : (gs : List Given) (g : Given) (i : ℕ) (q : List ℕ) → position_in gs g.uri ≡ Some i → position_in (with_given gs g) q ≡ position_in gs q
position_in-placed [] g i q e = absurd cc
position_in-placed (h ∷ hs) g i q e = by_place (front_or_behind (bytes_eq h.uri g.uri) (position_in hs g.uri) i e) (λ j. position_in-placed hs g j q)
  where
    by_place : ((bytes_eq h.uri g.uri ≡ true) × (i ≡ 0)) ⊎ ((bytes_eq h.uri g.uri ≡ false) × ((j : ℕ) × (position_in hs g.uri ≡ Some j) × (i ≡ suc j)))
        → ((j : ℕ) → position_in hs g.uri ≡ Some j → position_in (with_given hs g) q ≡ position_in hs q)
        → position_in (if bytes_eq h.uri g.uri then g ∷ hs else h ∷ with_given hs g) q ≡ (if bytes_eq h.uri q then Some 0 else option_map suc (position_in hs q))
    by_place (inl front) more =
        rw front.0 (ap (λ u. if bytes_eq u q then Some 0 else option_map suc (position_in hs q)) (sym ((bytes_eq-Decides h.uri g.uri).0 front.0)))
    by_place (inr behind) more =
        rw behind.0 (ap (λ o. if bytes_eq h.uri q then Some 0 else option_map suc o) (more behind.1.0 behind.1.1))

-- ---- a new document behind the others

pub with_given-appended : (gs : List Given) (g : Given) → position_in gs g.uri ≡ None → with_given gs g ≡ gs ++ g ∷ []
with_given-appended [] g e = refl
with_given-appended (h ∷ hs) g e =
    let n = nowhere (bytes_eq h.uri g.uri) (position_in hs g.uri) e in
    rw n.0 (ap (λ t. h ∷ t) (with_given-appended hs g n.1))

apart : (t u q : List ℕ) → bytes_eq t u ≡ false → bytes_eq t q ≡ true → bytes_eq u q ≡ true → ⊥
apart t u q differ left right =
    let same : t ≡ u = (bytes_eq-Decides t q).0 left ∙ sym ((bytes_eq-Decides u q).0 right) in
    true≢false (sym ((bytes_eq-Decides t u).1 same) ∙ differ)

pub position_in-appended : (gs : List Given) (g : Given) (q : List ℕ) → position_in gs g.uri ≡ None
    → position_in (gs ++ g ∷ []) q ≡ (if bytes_eq g.uri q then Some (length gs) else position_in gs q)
position_in-appended [] g q e = refl
position_in-appended (h ∷ hs) g q e =
    let n = nowhere (bytes_eq h.uri g.uri) (position_in hs g.uri) e in
    ap (λ o. if bytes_eq h.uri q then Some 0 else option_map suc o) (position_in-appended hs g q n.1)
    ∙ by_tests (bytes_eq h.uri q) (bytes_eq g.uri q) (position_in hs q) (apart h.uri g.uri q n.0)
  where
    by_tests : (b c : Bool) (o : Option ℕ) → (b ≡ true → c ≡ true → ⊥)
        → (if b then Some 0 else option_map suc (if c then Some (length hs) else o)) ≡ (if c then Some (suc (length hs)) else (if b then Some 0 else option_map suc o))
    by_tests true true o not_both = absurd (not_both refl refl)
    by_tests true false o not_both = refl
    by_tests false true o not_both = refl
    by_tests false false o not_both = refl
