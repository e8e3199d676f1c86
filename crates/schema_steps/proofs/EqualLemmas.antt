-- Equality of parts and of paths.
use Rattle.std.proofs.Common.{ℕ, ◌≡◌, ◌&&◌, ◌++◌, Bool, List, [], ◌∷◌, map, Decides, refl, ap}
use Rattle.std.specs.Cmp.Lexicographic.{pointwise}
use Rattle.std.specs.Hash.{HashWrites}
use Rattle.std.specs.Hash as fed
use Rattle.std.proofs.lemmas.Bool.{false≢true}
use Rattle.std.proofs.lemmas.Bool.Decides.{Decides-eqb}
use Rattle.std.proofs.lemmas.Slice.Eq.{slice_eq-Decides}
use Rattle.json_values.specs.Parts.{Part, name, index}
use Rattle.shared_lists.specs.Hashes.{marked}
use Rattle.schema_steps.specs.Parts.{part_eq}

-- a test through a function, at lists
pub pointwise-map : {A B : Type 0} (f : A → B) (E : B → B → Bool) (xs ys : List A) → pointwise (λ x y. E (f x) (f y)) xs ys ≡ pointwise E (map f xs) (map f ys)
pointwise-map f E [] [] = refl
pointwise-map f E [] (y ∷ ys) = refl
pointwise-map f E (x ∷ xs) [] = refl
pointwise-map f E (x ∷ xs) (y ∷ ys) = ap (λ b. E (f x) (f y) && b) (pointwise-map f E xs ys)

-- what is fed through a function, at lists
pub marked-map : {A B : Type 0} (f : A → B) (F : B → HashWrites) (xs : List A) → marked (λ x. F (f x)) xs ≡ marked F (map f xs)
marked-map f F [] = refl
marked-map f F (x ∷ xs) = ap (λ ws. fed.u8 1 ++ (F (f x) ++ ws)) (marked-map f F xs)

abbrev text_of : Part → List ℕ
text_of (name s) = s
text_of (index n) = []

abbrev number_of : Part → ℕ
number_of (name s) = 0
number_of (index n) = n

pub part_eq-Decides : (x y : Part) → Decides (part_eq x y) (x ≡ y)
part_eq-Decides (name s) (name t) =
    let d = slice_eq-Decides Decides-eqb s t (part_eq (name s) (name t)) refl in
    (λ h. ap name (d.0 h), λ e. d.1 (ap text_of e))
part_eq-Decides (name s) (index n) = (λ h. absurd (false≢true h), λ e. absurd (cc (e)))
part_eq-Decides (index m) (name t) = (λ h. absurd (false≢true h), λ e. absurd (cc (e)))
part_eq-Decides (index m) (index n) =
    let d = Decides-eqb m n in
    (λ h. ap index (d.0 h), λ e. d.1 (ap number_of e))

pub no_part : {A B : Type 0} (f : A → B) (xs : List A) → map f xs ≡ [] → xs ≡ []
no_part f [] e = refl
no_part f (x ∷ xs) e = absurd (cc (e))
