-- Elements by their positions.
use Rattle.std.proofs.Common.{◌≡◌, ◌⊎◌, ◌<◌, ℕ, zero, suc, List, [], ◌∷◌, ◌++◌, Option, Some, refl, sym, ap, subst, inl, inr, arith, length, slice_get}
use Rattle.std.specs.List.{All, AllZip}
use Rattle.std.proofs.lemmas.List.Elements.{All-nil, All-cons}
use Rattle.std.proofs.lemmas.Option.{slice_get_within}
use Rattle.schema_meaning.specs.Members.{In, first, later}

module _ {A : Type 0} where
  next-place : (y x : A) (xs : List A) → (i : ℕ) × (slice_get xs i ≡ Some x) → (i : ℕ) × (slice_get (y ∷ xs) i ≡ Some x)
  next-place y x xs h = (suc h.0, h.1)

  pub place-of : (xs : List A) (x : A) → In x xs → (i : ℕ) × (slice_get xs i ≡ Some x)
  place-of [] x i = elim i [ ]
  place-of (y ∷ xs) x first = (0, refl)
  place-of (y ∷ xs) x (later i) = next-place y x xs (place-of xs x i)

  pub in-place : (xs : List A) (i : ℕ) (x : A) → slice_get xs i ≡ Some x → In x xs
  in-place [] i x e = absurd (cc (e))
  in-place (y ∷ xs) zero x e = (let same : y ≡ x = cc in subst (λ z. In z (y ∷ xs)) same first)
  in-place (y ∷ xs) (suc i) x e = later (in-place xs i x e)

  pub kept-place : (xs ys : List A) (i : ℕ) (x : A) → slice_get xs i ≡ Some x → slice_get (xs ++ ys) i ≡ Some x
  kept-place [] ys i x e = absurd (cc (e))
  kept-place (y ∷ xs) ys zero x e = e
  kept-place (y ∷ xs) ys (suc i) x e = kept-place xs ys i x e

  -- what stands at a position of the front stood there
  pub front-place : (xs ys : List A) (i : ℕ) (x : A) → i < length xs → slice_get (xs ++ ys) i ≡ Some x → slice_get xs i ≡ Some x
  front-place [] ys i x within e = absurd (omega (arith, within))
  front-place (y ∷ xs) ys zero x within e = e
  front-place (y ∷ xs) ys (suc i) x within e = front-place xs ys i x (omega (arith, within)) e

  pub one-there : (o : Option A) (x y : A) → o ≡ Some x → o ≡ Some y → x ≡ y
  one-there o x y e f = cc

  pub within : (xs : List A) (i : ℕ) (x : A) → slice_get xs i ≡ Some x → i < length xs
  within xs i x e = slice_get_within xs i x e

  -- there is one at each position below the length
  pub there-is : (xs : List A) (i : ℕ) → i < length xs → (x : A) × (slice_get xs i ≡ Some x)
  there-is [] i h = absurd (omega (arith, h))
  there-is (x ∷ xs) zero h = (x, refl)
  there-is (x ∷ xs) (suc i) h = there-is xs i (omega (arith, h))

  pub at-end : (xs : List A) (x : A) → slice_get (xs ++ x ∷ []) (length xs) ≡ Some x
  at-end [] x = refl
  at-end (y ∷ xs) x = at-end xs x

  -- what stands there stood there, or is the last
  pub front-or-last : (xs : List A) (x y : A) (i : ℕ) → slice_get (xs ++ x ∷ []) i ≡ Some y → (slice_get xs i ≡ Some y) ⊎ ((i ≡ length xs) × (x ≡ y))
  front-or-last [] x y zero e = inr (refl, cc (e))
  front-or-last [] x y (suc i) e = absurd (cc (e))
  front-or-last (z ∷ xs) x y zero e = inl e
  front-or-last (z ∷ xs) x y (suc i) e = one-up (front-or-last xs x y i e)
    where
      one-up : (slice_get xs i ≡ Some y) ⊎ ((i ≡ length xs) × (x ≡ y)) → (slice_get xs i ≡ Some y) ⊎ ((suc i ≡ suc (length xs)) × (x ≡ y))
      one-up (inl h) = inl h
      one-up (inr h) = inr (ap suc h.0, h.1)

  pub all-of : (P : A → Type 0) (xs : List A) → ((x : A) → In x xs → P x) → All P xs
  all-of P [] h = All-nil P
  all-of P (x ∷ xs) h = All-cons P x xs (h x first) (all-of P xs (λ y i. h y (later i)))

module _ {A B : Type 0} (R : A → B → Type 0) where
  pub zip-push : (xs : List A) (ys : List B) (x : A) (y : B) → AllZip R xs ys → R x y → AllZip R (xs ++ x ∷ []) (ys ++ y ∷ [])
  zip-push [] [] x y h r = (r, tt)
  zip-push [] (z ∷ ys) x y h r = absurd h
  zip-push (w ∷ xs) [] x y h r = absurd h
  zip-push (w ∷ xs) (z ∷ ys) x y h r = (h.0, zip-push xs ys x y h.1 r)

  -- of two lists that go together
  pub zip-place : (xs : List A) (ys : List B) (i : ℕ) (x : A) → AllZip R xs ys → slice_get xs i ≡ Some x → (y : B) × (slice_get ys i ≡ Some y) × R x y
  zip-place [] ys i x z e = absurd (cc (e))
  zip-place (w ∷ xs) [] i x z e = absurd z
  zip-place (w ∷ xs) (y ∷ ys) zero x z e = (let same : w ≡ x = cc in (y, refl, subst (λ v. R v y) same z.0))
  zip-place (w ∷ xs) (y ∷ ys) (suc i) x z e = zip-place xs ys i x z.1 e

  pub zip-back : (xs : List A) (ys : List B) (i : ℕ) (y : B) → AllZip R xs ys → slice_get ys i ≡ Some y → (x : A) × (slice_get xs i ≡ Some x) × R x y
  zip-back xs [] i y z e = absurd (cc (e))
  zip-back [] (v ∷ ys) i y z e = absurd z
  zip-back (x ∷ xs) (v ∷ ys) zero y z e = (let same : v ≡ y = cc in (x, refl, subst (λ u. R x u) same z.0))
  zip-back (x ∷ xs) (v ∷ ys) (suc i) y z e = zip-back xs ys i y z.1 e

pub same-all : {A : Type 0} (P : A → Type 0) (xs ys : List A) → xs ≡ ys → All P ys → All P xs
same-all P xs ys e h = subst (λ l. All P l) (sym e) h
