-- Elements of lists put together.
use Rattle.std.proofs.Common.{List, [], ◌∷◌, ◌++◌, ◌⊎◌, inl, inr, map}
use Rattle.std.specs.List.{flat_map, AllByRecursion}
use Rattle.schema_meaning.specs.Members.{In, first, later}

pub in_first : {A : Type 0} (x : A) (xs ys : List A) → In x xs → In x (xs ++ ys)
in_first x [] ys i = elim i [ ]
in_first x (y ∷ xs) ys first = first
in_first x (y ∷ xs) ys (later i) = later (in_first x xs ys i)

pub in_second : {A : Type 0} (x : A) (xs ys : List A) → In x ys → In x (xs ++ ys)
in_second x [] ys i = i
in_second x (y ∷ xs) ys i = later (in_second x xs ys i)

pub in_either : {A : Type 0} (x : A) (xs ys : List A) → In x (xs ++ ys) → In x xs ⊎ In x ys
in_either x [] ys i = inr i
in_either x (y ∷ xs) ys first = inl first
in_either x (y ∷ xs) ys (later i) = elim (in_either x xs ys i) [ inl j ↦ inl (later j) | inr j ↦ inr j ]

pub in_map : {A B : Type 0} (f : A → B) (x : A) (xs : List A) → In x xs → In (f x) (map f xs)
in_map f x [] i = elim i [ ]
in_map f x (y ∷ xs) first = first
in_map f x (y ∷ xs) (later i) = later (in_map f x xs i)

pub in_flat_map : {A B : Type 0} (f : A → List B) (x : A) (xs : List A) (y : B) → In x xs → In y (f x) → In y (flat_map f xs)
in_flat_map f x [] y i j = elim i [ ]
in_flat_map f x (z ∷ xs) y first j = in_first y (f z) (flat_map f xs) j
in_flat_map f x (z ∷ xs) y (later i) j = in_second y (f z) (flat_map f xs) (in_flat_map f x xs y i j)

-- ---- what holds of each

pub of_in : {A : Type 0} (S : A → Type 0) (x : A) (xs : List A) → AllByRecursion S xs → In x xs → S x
of_in S x [] h i = elim i [ ]
of_in S x (y ∷ xs) h first = h.0
of_in S x (y ∷ xs) h (later i) = of_in S x xs h.1 i

pub each_in : {A : Type 0} (S : A → Type 0) (xs : List A) → ((x : A) → In x xs → S x) → AllByRecursion S xs
each_in S [] f = tt
each_in S (x ∷ xs) f = (f x first, each_in S xs (λ y i. f y (later i)))
