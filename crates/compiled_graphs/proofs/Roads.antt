-- Roads in their order, and the visits of a walk that goes by them.
use Rattle.std.proofs.Common.{◌≡◌, ◌∙◌, ◌⊎◌, ◌<◌, ◌+◌, ℕ, zero, suc, List, [], ◌∷◌, ◌++◌, Some, refl, sym, ap, subst, inl, inr, arith, length, slice_get}
use Rattle.std.proofs.lemmas.List.{length-append}
use Rattle.compiled_graphs.specs.Roads.{IsLower, IsBefore, IsNotAfter, GoesTo, to_root, on_to, Rise, AreBefore, IsTaken, AreRoads}
use Rattle.compiled_graphs.proofs.Positions.{one-there, within, front-or-last}

-- ---- the order of roads

lower-on : (p q r : List ℕ) → IsLower p q → IsLower q r → IsLower p r
lower-on [] q r h k = absurd h
lower-on (a ∷ p) [] r h k = absurd h
lower-on (a ∷ p) (b ∷ q) [] h k = absurd k
lower-on (a ∷ p) (b ∷ q) (c ∷ r) (inl x) (inl y) = inl (omega (arith, x, y))
lower-on (a ∷ p) (b ∷ q) (c ∷ r) (inl x) (inr y) = (let e = y.0 in inl (omega (arith, x, e)))
lower-on (a ∷ p) (b ∷ q) (c ∷ r) (inr x) (inl y) = (let e = x.0 in inl (omega (arith, e, y)))
lower-on (a ∷ p) (b ∷ q) (c ∷ r) (inr x) (inr y) = inr (x.0 ∙ y.0, lower-on p q r x.1 y.1)

not-lower : (p : List ℕ) → IsLower p p → ⊥
not-lower [] h = h
not-lower (a ∷ p) (inl x) = omega (arith, x)
not-lower (a ∷ p) (inr x) = not-lower p x.1

-- one position more
lower-more : (p q : List ℕ) (a b : ℕ) → IsLower p q → IsLower (p ++ a ∷ []) (q ++ b ∷ [])
lower-more [] q a b h = absurd h
lower-more (x ∷ p) [] a b h = absurd h
lower-more (x ∷ p) (y ∷ q) a b (inl h) = inl h
lower-more (x ∷ p) (y ∷ q) a b (inr h) = inr (h.0, lower-more p q a b h.1)

lower-last : (p : List ℕ) (a b : ℕ) → a < b → IsLower (p ++ a ∷ []) (p ++ b ∷ [])
lower-last [] a b h = inl h
lower-last (x ∷ p) a b h = inr (refl, lower-last p a b h)

one-longer : (p : List ℕ) (a : ℕ) → length (p ++ a ∷ []) ≡ length p + 1
one-longer p a = length-append p (a ∷ [])

pub before-on : (p q r : List ℕ) → IsBefore p q → IsBefore q r → IsBefore p r
before-on p q r (inl x) (inl y) = inl (omega (arith, x, y))
before-on p q r (inl x) (inr y) = (let e = y.0 in inl (omega (arith, x, e)))
before-on p q r (inr x) (inl y) = (let e = x.0 in inl (omega (arith, e, y)))
before-on p q r (inr x) (inr y) = inr (x.0 ∙ y.0, lower-on p q r x.1 y.1)

pub not-before : (p : List ℕ) → IsBefore p p → ⊥
not-before p (inl x) = omega (arith, x)
not-before p (inr x) = not-lower p x.1

pub before-longer : (p : List ℕ) (a : ℕ) → IsBefore p (p ++ a ∷ [])
before-longer p a = (let e = one-longer p a in inl (omega (arith, e)))

pub before-more : (p q : List ℕ) (a b : ℕ) → IsBefore p q → IsBefore (p ++ a ∷ []) (q ++ b ∷ [])
before-more p q a b (inl h) = (let e = one-longer p a in let f = one-longer q b in inl (omega (arith, e, f, h)))
before-more p q a b (inr h) = inr (one-longer p a ∙ ap (λ n. n + 1) h.0 ∙ sym (one-longer q b), lower-more p q a b h.1)

pub before-last : (p : List ℕ) (a b : ℕ) → a < b → IsBefore (p ++ a ∷ []) (p ++ b ∷ [])
before-last p a b h = inr (one-longer p a ∙ sym (one-longer p b), lower-last p a b h)

pub early-on : (p q r : List ℕ) → IsNotAfter p q → IsNotAfter q r → IsNotAfter p r
early-on p q r (inl h) (inl k) = inl (before-on p q r h k)
early-on p q r (inl h) (inr e) = inl (subst (λ x. IsBefore p x) e h)
early-on p q r (inr e) k = subst (λ x. IsNotAfter x r) (sym e) k

pub early-before : (p q r : List ℕ) → IsNotAfter p q → IsBefore q r → IsBefore p r
early-before p q r (inl h) k = before-on p q r h k
early-before p q r (inr e) k = subst (λ x. IsBefore x r) (sym e) k

pub early-more : (p q : List ℕ) (a : ℕ) → IsNotAfter p q → IsNotAfter (p ++ a ∷ []) (q ++ a ∷ [])
early-more p q a (inl h) = inl (before-more p q a a h)
early-more p q a (inr e) = inr (ap (λ x. x ++ a ∷ []) e)

-- ---- roads one behind another

pub push-rise : (ps : List (List ℕ)) (r : List ℕ) → Rise ps → AreBefore ps r → Rise (ps ++ r ∷ [])
push-rise ps r rise before i j p q h e f = by (front-or-last ps r p i e) (front-or-last ps r q j f)
  where
    by : (slice_get ps i ≡ Some p) ⊎ ((i ≡ length ps) × (r ≡ p)) → (slice_get ps j ≡ Some q) ⊎ ((j ≡ length ps) × (r ≡ q)) → IsBefore p q
    by (inl a) (inl b) = rise i j p q h a b
    by (inl a) (inr b) = subst (λ x. IsBefore p x) b.1 (before i p a)
    by (inr a) (inl b) = (let low = within ps j q b in let at = a.0 in absurd (omega (arith, low, at, h)))
    by (inr a) (inr b) = (let at = a.0 in let too = b.0 in absurd (omega (arith, at, too, h)))

pub push-before : (ps : List (List ℕ)) (r s : List ℕ) → AreBefore ps r → IsBefore r s → AreBefore (ps ++ r ∷ []) s
push-before ps r s before h i p e = by (front-or-last ps r p i e)
  where
    by : (slice_get ps i ≡ Some p) ⊎ ((i ≡ length ps) × (r ≡ p)) → IsBefore p s
    by (inl a) = before-on p r s (before i p a) h
    by (inr a) = subst (λ x. IsBefore x s) a.1 h

rise-behind : (ps : List (List ℕ)) → Rise ps → (i j : ℕ) (p q : List ℕ) → slice_get ps i ≡ Some p → slice_get ps j ≡ Some q → IsBefore p q → i < j
rise-behind ps rise i j p q e f h = by (in-order i j)
  where
    one-up : (a b : ℕ) → (a < b) ⊎ ((a ≡ b) ⊎ (b < a)) → (suc a < suc b) ⊎ ((suc a ≡ suc b) ⊎ (suc b < suc a))
    one-up a b (inl x) = inl (omega (arith, x))
    one-up a b (inr (inl x)) = inr (inl (ap suc x))
    one-up a b (inr (inr x)) = inr (inr (omega (arith, x)))

    in-order : (a b : ℕ) → (a < b) ⊎ ((a ≡ b) ⊎ (b < a))
    in-order zero zero = inr (inl refl)
    in-order zero (suc b) = inl (omega arith)
    in-order (suc a) zero = inr (inr (omega arith))
    in-order (suc a) (suc b) = one-up a b (in-order a b)

    by : (i < j) ⊎ ((i ≡ j) ⊎ (j < i)) → i < j
    by (inl x) = x
    by (inr (inl x)) =
        let same : p ≡ q = one-there (slice_get ps j) p q (subst (λ n. slice_get ps n ≡ Some p) x e) f in
        absurd (not-before q (subst (λ y. IsBefore y q) same h))
    by (inr (inr x)) = absurd (not-before p (before-on p q p h (rise j i q p x f e)))

-- ---- visits in the order of roads

module _ {S V : Type 0} (asked : S → List S) (roots : List S) (Met : V → S → Type 0) where
  -- ---- nothing is wrong before

  module _ (vs : List V) (next : ℕ) (ps : List (List ℕ)) (along : AreRoads asked roots Met vs next ps) (p : List ℕ) (here : slice_get ps next ≡ Some p) where
    -- one that is visited, and read
    abbrev IsReadBefore : S → List ℕ → Type 0
    IsReadBefore t q = (x : IsTaken asked roots Met vs ps t q) × (x.position < next)

    is-read : (t : S) (q : List ℕ) → IsBefore q p → IsTaken asked roots Met vs ps t q → IsReadBefore t q
    is-read t q h x = (x, rise-behind ps along.rise x.position next x.road p x.is here (early-before x.road q p x.early h))

    taken-before : (q : List ℕ) (t : S) → GoesTo asked roots q t → IsBefore q p → IsReadBefore t q
    taken-before _ _ (to_root i s e) h = is-read s (i ∷ []) h (along.begins i s e)
    taken-before _ _ (on_to {p = q} k s t l e) h =
        let before = taken-before q s l (before-on q (q ++ k ∷ []) p (before-longer q k) h) in
        let x = before.0 in
        let y = along.taken x.position before.1 x.visit x.road x.there x.is s x.met k t e in
        is-read t (q ++ k ∷ []) h
        (record { position = y.position; visit = y.visit; there = y.there; met = y.met; road = y.road; is = y.is; early = early-on y.road (x.road ++ k ∷ []) (q ++ k ∷ []) y.early (early-more x.road q k x.early) })

    pub right-before : (Right : S → Type 0) → ((i : ℕ) → i < next → (v : V) → slice_get vs i ≡ Some v → (s : S) → Met v s → Right s)
        → (q : List ℕ) (t : S) → IsBefore q p → GoesTo asked roots q t → Right t
    right-before Right right q t h l = (let x = taken-before q t l h in right x.0.position x.1 x.0.visit x.0.there t x.0.met)
