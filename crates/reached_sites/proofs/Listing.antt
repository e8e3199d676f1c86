-- What is among the elements of lists that are put together.
use Rattle.std.proofs.Common.{◌≡◌, ◌⊎◌, ◌∙◌, ◌<◌, ◌+◌, ℕ, zero, suc, List, [], ◌∷◌, ◌++◌, refl, sym, ap, subst, length, take, get_or, inl, inr}
use Rattle.std.specs.List.{flat_map}
use Rattle.std.proofs.lemmas.List.{take_more}
use Rattle.schema_meaning.specs.Members.{In, first, later}

pub in-before : {A : Type 0} {x : A} (xs ys : List A) → In x xs → In x (xs ++ ys)
in-before [] ys i = elim i [ ]
in-before (y ∷ xs) ys first = first
in-before (y ∷ xs) ys (later i) = later (in-before xs ys i)

pub in-behind : {A : Type 0} {x : A} (xs ys : List A) → In x ys → In x (xs ++ ys)
in-behind [] ys i = i
in-behind (y ∷ xs) ys i = later (in-behind xs ys i)

one-later : {A : Type 0} {x y : A} {xs ys : List A} → In x xs ⊎ In x ys → In x (y ∷ xs) ⊎ In x ys
one-later (inl i) = inl (later i)
one-later (inr i) = inr i

pub in-either : {A : Type 0} {x : A} (xs ys : List A) → In x (xs ++ ys) → In x xs ⊎ In x ys
in-either [] ys i = inr i
in-either (y ∷ xs) ys first = inl first
in-either (y ∷ xs) ys (later i) = one-later (in-either xs ys i)

pub in-one : {A : Type 0} {x y : A} → In x (y ∷ []) → x ≡ y
in-one first = refl
in-one (later i) = elim i [ ]

pub none-in : {A P : Type 0} {x : A} → In x [] → P
none-in i = elim i [ ]

pub in-front : {A : Type 0} {x : A} (n : ℕ) (xs : List A) → In x (take n xs) → In x xs
in-front zero xs i = none-in i
in-front (suc n) [] i = none-in i
in-front (suc n) (y ∷ xs) first = first
in-front (suc n) (y ∷ xs) (later i) = later (in-front n xs i)

-- the element at a position
pub in-at : {A : Type 0} (xs : List A) (i : ℕ) (x : A) → i < length xs → x ≡ get_or xs i x → In x xs
in-at xs i x within at =
    in-front (i + 1) xs (subst (λ l. In x l) (sym (take_more xs i x within ∙ ap (λ y. take i xs ++ y ∷ []) (sym at))) (in-behind (take i xs) (x ∷ []) first))

module _ {A B : Type 0} (f : A → List B) where
  pub in-all : {x : A} {y : B} (xs : List A) → In x xs → In y (f x) → In y (flat_map f xs)
  in-all [] i j = elim i [ ]
  in-all (x ∷ xs) first j = in-before (f x) (flat_map f xs) j
  in-all (x ∷ xs) (later i) j = in-behind (f x) (flat_map f xs) (in-all xs i j)

  abbrev From : B → List A → Type 0
  From y xs = (x : A) × In x xs × In y (f x)

  one-more : {y : B} {x : A} {xs : List A} → In y (f x) ⊎ From y xs → From y (x ∷ xs)
  one-more {x = x} (inl j) = (x, first, j)
  one-more (inr w) = (w.0, later w.1, w.2)

  behind : {y : B} {x : A} (xs : List A) → In y (f x) ⊎ In y (flat_map f xs) → (In y (flat_map f xs) → From y xs) → In y (f x) ⊎ From y xs
  behind xs (inl j) g = inl j
  behind xs (inr i) g = inr (g i)

  pub in-some : {y : B} (xs : List A) → In y (flat_map f xs) → From y xs
  in-some [] i = elim i [ ]
  in-some (x ∷ xs) i = one-more (behind xs (in-either (f x) (flat_map f xs) i) (in-some xs))

pub in-none : {A P : Type 0} {x : A} (xs : List A) → xs ≡ [] → In x xs → P
in-none {x = x} xs e i = none-in (subst (λ l. In x l) e i)
