-- Results that are right together, or wrong in the same way.
use Rattle.std.proofs.Common.{List, [], ◌∷◌, ◌++◌, map, Result, Ok, Err, Bool, true, false}
use Rattle.std.specs.List.{AllZip}
use Rattle.std.specs.Prelude.{if◌then◌else◌}
use Rattle.schema_definitions.specs.Words.{result_map}
use Rattle.schema_definitions.specs.Rows.{BuildCause, and_more}

pub data Both {A : Type 0} (R : A → A → Type 0) : Result A (List BuildCause) → Result A (List BuildCause) → Type 0 where
  right : {x y : A} → R x y → Both R (Ok x) (Ok y)
  wrong : {e : List BuildCause} → Both R (Err e) (Err e)

pub if_right : {A : Type 0} (R : A → A → Type 0) (b : Bool) (x y : A) (e : List BuildCause) → R x y → Both R (if b then Ok x else Err e) (if b then Ok y else Err e)
if_right R true x y e h = right h
if_right R false x y e h = wrong

pub both_more : {A : Type 0} (R : A → A → Type 0) {x y : Result A (List BuildCause)} {xs ys : Result (List A) (List BuildCause)}
    → Both R x y → Both (AllZip R) xs ys → Both (AllZip R) (and_more x xs) (and_more y ys)
both_more R (right h) (right hs) = right (h, hs)
both_more R (right h) wrong = wrong
both_more R wrong (right hs) = wrong
both_more R wrong wrong = wrong

pub both_mapped : {A B : Type 0} (R : A → A → Type 0) (S : B → B → Type 0) (f g : A → B) → ((x y : A) → R x y → S (f x) (g y))
    → {r q : Result A (List BuildCause)} → Both R r q → Both S (result_map f r) (result_map g q)
both_mapped R S f g h (right {x = x} {y = y} k) = right (h x y k)
both_mapped R S f g h wrong = wrong

-- ---- lists one by one

pub zip_mapped : {A B : Type 0} (R : A → A → Type 0) (S : B → B → Type 0) (f : A → B) → ((x y : A) → R x y → S (f x) (f y))
    → (xs ys : List A) → AllZip R xs ys → AllZip S (map f xs) (map f ys)
zip_mapped R S f h [] [] z = tt
zip_mapped R S f h [] (y ∷ ys) z = absurd z
zip_mapped R S f h (x ∷ xs) [] z = absurd z
zip_mapped R S f h (x ∷ xs) (y ∷ ys) z = (h x y z.0, zip_mapped R S f h xs ys z.1)

pub zip_append : {A : Type 0} (R : A → A → Type 0) (xs ys us vs : List A) → AllZip R xs ys → AllZip R us vs → AllZip R (xs ++ us) (ys ++ vs)
zip_append R [] [] us vs z w = w
zip_append R [] (y ∷ ys) us vs z w = absurd z
zip_append R (x ∷ xs) [] us vs z w = absurd z
zip_append R (x ∷ xs) (y ∷ ys) us vs z w = (z.0, zip_append R xs ys us vs z.1 w)
