-- Distinct elements, and how many they are.
use Rattle.std.proofs.Common.{◌≡◌, ◌⊎◌, ◌≤◌, suc, List, [], ◌∷◌, ◌++◌, refl, ap, subst, inl, inr, length, arith}
use Rattle.schema_meaning.specs.Members.{In, first, later}
use Rattle.reading_laws.specs.Keys.{Distinct}

module _ {A : Type 0} where
  one-later : {x y : A} {xs ys : List A} → In x xs ⊎ In x ys → In x (y ∷ xs) ⊎ In x ys
  one-later (inl i) = inl (later i)
  one-later (inr i) = inr i

  in-either : {x : A} (xs ys : List A) → In x (xs ++ ys) → In x xs ⊎ In x ys
  in-either [] ys i = inr i
  in-either (y ∷ xs) ys first = inl first
  in-either (y ∷ xs) ys (later i) = one-later (in-either xs ys i)

  pub in-one : {x y : A} → In x (y ∷ []) → x ≡ y
  in-one first = refl
  in-one (later i) = elim i [ ]

  not-the-last : (x y : A) (xs : List A) → (In x xs → ⊥) → (x ≡ y → ⊥) → In x (xs ++ y ∷ []) → ⊥
  not-the-last x y xs lacks other i = by (in-either xs (y ∷ []) i)
    where
      by : In x xs ⊎ In x (y ∷ []) → ⊥
      by (inl j) = lacks j
      by (inr j) = other (in-one j)

  -- one more behind those from which it differs
  pub distinct-behind : (xs : List A) (y : A) → Distinct xs → (In y xs → ⊥) → Distinct (xs ++ y ∷ [])
  distinct-behind [] y d lacks = (λ i. elim i [ ], tt)
  distinct-behind (x ∷ xs) y d lacks =
      (not-the-last x y xs d.0 (λ e. lacks (subst (λ z. In z (x ∷ xs)) e first)), distinct-behind xs y d.1 (λ i. lacks (later i)))

  -- ---- how many

  -- a list without one of its elements
  pub record Taken (x : A) (xs : List A) : Type 0 where
    pub rest : List A
    pub shorter : length xs ≡ suc (length rest)
    pub left : (y : A) → In y xs → (y ≡ x) ⊎ In y rest

  taken-later : (x z : A) (xs : List A) → Taken x xs → Taken x (z ∷ xs)
  taken-later x z xs t = record {
    rest = z ∷ t.rest;
    shorter = ap suc t.shorter;
    left = λ y i. by y i;
  }
    where
      more : (y : A) → (y ≡ x) ⊎ In y t.rest → (y ≡ x) ⊎ In y (z ∷ t.rest)
      more y (inl e) = inl e
      more y (inr j) = inr (later j)

      by : (y : A) → In y (z ∷ xs) → (y ≡ x) ⊎ In y (z ∷ t.rest)
      by y first = inr first
      by y (later j) = more y (t.left y j)

  taken : (x : A) (xs : List A) → In x xs → Taken x xs
  taken x [] i = elim i [ ]
  taken x (_ ∷ xs) first = record { rest = xs; shorter = refl; left = λ y i. by y i }
    where
      by : (y : A) → In y (x ∷ xs) → (y ≡ x) ⊎ In y xs
      by y first = inl refl
      by y (later j) = inr j
  taken x (z ∷ xs) (later i) = taken-later x z xs (taken x xs i)

  pub are-fewer : (xs others : List A) → Distinct xs → ((x : A) → In x xs → In x others) → length xs ≤ length others
  are-fewer [] others d f = omega arith
  are-fewer (x ∷ xs) others d f =
      let t = taken x others (f x first) in
      let rest = are-fewer xs t.rest d.1 (λ y i. left y i (t.left y (f y (later i)))) in
      let shorter = t.shorter in
      omega (arith, rest, shorter)
    where
      t' : Taken x others
      t' = taken x others (f x first)

      left : (y : A) → In y xs → (y ≡ x) ⊎ In y t'.rest → In y t'.rest
      left y i (inl e) = absurd (d.0 (subst (λ z. In z xs) e i))
      left y i (inr j) = j
