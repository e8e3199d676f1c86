-- What the hash of a list feeds a hasher.
use Rattle.std.specs.Prelude.{◌≡◌, Bool, true, List, [], ◌∷◌, ◌++◌, refl}
use Rattle.std.specs.Cmp.{first_so, second_so}
use Rattle.std.specs.Cmp.Lexicographic.{pointwise}
use Rattle.std.specs.Hash.{HashWrites}
use Rattle.std.specs.Hash as fed
use Rattle.std.proofs.lemmas.Bool.{false≢true}

-- a 1 and what is fed for the value, at each value, and then a 0
abbrev pub marked : {T : Type 0} → (T → HashWrites) → List T → HashWrites
marked F [] = fed.u8 0
marked F (x ∷ xs) = fed.u8 1 ++ (F x ++ marked F xs)

-- equal lists are fed alike
pub marked_alike : {T : Type 0} (E : T → T → Bool) (F : T → HashWrites) → ((x y : T) → E x y ≡ true → F x ≡ F y) → (xs ys : List T) → pointwise E xs ys ≡ true → marked F xs ≡ marked F ys
marked_alike E F alike [] [] h = refl
marked_alike E F alike [] (y ∷ ys) h = absurd (false≢true h)
marked_alike E F alike (x ∷ xs) [] h = absurd (false≢true h)
marked_alike E F alike (x ∷ xs) (y ∷ ys) h =
    λ i. fed.u8 1 ++ (alike x y (first_so (E x y) (pointwise E xs ys) h) i ++ marked_alike E F alike xs ys (second_so (E x y) (pointwise E xs ys) h) i)
