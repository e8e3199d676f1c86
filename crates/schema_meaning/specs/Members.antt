-- Words on lists that definitions share.
use Rattle.std.specs.Prelude.{ℕ, suc, List, [], ◌∷◌, Bool, true, false, ◌&&◌, ◌||◌, Option, Some, None, bytes_eq}
use Rattle.std.specs.List.{list_any}

-- x is among the elements
pub data In {A : Type 0} (x : A) : List A → Type 0 where
  first : {xs : List A} → In x (x ∷ xs)
  later : {y : A} {xs : List A} → In x xs → In x (y ∷ xs)

-- the same elements in another order
pub data Reordered {A : Type 0} : List A → List A → Type 0 where
  nothing_left : Reordered [] []
  kept : {x : A} {xs ys : List A} → Reordered xs ys → Reordered (x ∷ xs) (x ∷ ys)
  exchanged : {x y : A} {xs : List A} → Reordered (x ∷ y ∷ xs) (y ∷ x ∷ xs)
  in_turn : {xs ys zs : List A} → Reordered xs ys → Reordered ys zs → Reordered xs zs

abbrev pub is_empty : {A : Type 0} → List A → Bool
is_empty [] = true
is_empty (x ∷ xs) = false

abbrev pub all_true : List Bool → Bool
all_true [] = true
all_true (b ∷ bs) = b && all_true bs

abbrev pub some_true : List Bool → Bool
some_true [] = false
some_true (b ∷ bs) = b || some_true bs

-- how many are true
abbrev pub one_if : Bool → ℕ → ℕ
one_if true n = suc n
one_if false n = n

abbrev pub count_true : List Bool → ℕ
count_true [] = 0
count_true (b ∷ bs) = one_if b (count_true bs)

-- what each holds, if each holds something
abbrev pub known_too : {A : Type 0} → Option A → Option (List A) → Option (List A)
known_too None xs = None
known_too (Some x) None = None
known_too (Some x) (Some xs) = Some (x ∷ xs)

abbrev pub all_known : {A : Type 0} → List (Option A) → Option (List A)
all_known [] = Some []
all_known (o ∷ os) = known_too o (all_known os)

abbrev pub is_listed : List ℕ → List (List ℕ) → Bool
is_listed k names = list_any (bytes_eq k) names
