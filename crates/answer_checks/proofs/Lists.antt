-- Lists that are walked from the front.
use Rattle.std.proofs.Common.{◌≡◌, ◌<◌, ◌+◌, ◌∙◌, ℕ, List, [], ◌∷◌, ◌++◌, Bool, true, false, ◌||◌, map, length, take, ap, refl, sym, subst, Result, Ok, Err, OnErr}
use Rattle.serde_json.specs.Data.{string}
use Rattle.serde_json.specs.View.{items_of}
use Rattle.serde_json.specs.Written.{items_have_float}
use Rattle.std.specs.List.{AllZip, slice_index_or}
use Rattle.std.proofs.lemmas.List.{map-append, take_more}

push_zip : {A B : Type 0} (R : A → B → Type 0) (xs : List A) (ys : List B) (x : A) (y : B) → AllZip R xs ys → R x y → AllZip R (xs ++ x ∷ []) (ys ++ y ∷ [])
push_zip R [] [] x y h r = (r, tt)
push_zip R [] (z ∷ ys) x y h r = absurd h
push_zip R (w ∷ xs) [] x y h r = absurd h
push_zip R (w ∷ xs) (z ∷ ys) x y h r = (h.0, push_zip R xs ys x y h.1 r)

pub or_false : (b : Bool) → (b || false) ≡ b
or_false true = refl
or_false false = refl

module _ {A : Type 0} (xs : List A) (i : ℕ) (d : A) (within : i < length xs) where
  pub map_next : {B : Type 0} (f : A → B) → map f (take (i + 1) xs) ≡ map f (take i xs) ++ f (slice_index_or xs i d) ∷ []
  map_next f = ap (map f) (take_more xs i d within) ∙ map-append f (take i xs) (slice_index_or xs i d ∷ [])

  -- one more of each
  pub zip_more : {B C : Type 0} (f : A → B) (R : B → C → Type 0) (ys : List C) (y : C) → AllZip R (map f (take i xs)) ys → R (f (slice_index_or xs i d)) y
      → AllZip R (map f (take (i + 1) xs)) (ys ++ y ∷ [])
  zip_more f R ys y h r = subst (λ zs. AllZip R zs (ys ++ y ∷ [])) (sym (map_next f)) (push_zip R (map f (take i xs)) ys (f (slice_index_or xs i d)) y h r)

pub any_err : {T E : Type 0} (r : Result T E) (P : Type 0) → P → OnErr r P
any_err (Ok x) P h = tt
any_err (Err e) P h = h

pub words_no_float : {A : Type 0} (f : A → List ℕ) (xs : List A) → items_have_float (items_of (map (λ a. string (f a)) xs)) ≡ false
words_no_float f [] = refl
words_no_float f (x ∷ xs) = words_no_float f xs
