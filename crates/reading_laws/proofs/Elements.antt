-- What holds of each element of lists that are made from others.
use Rattle.std.proofs.Common.{List, [], ◌∷◌, Bool, true, false, cond, map}
use Rattle.std.specs.List.{filter, flat_map, AllByRecursion}
use Rattle.schema_meaning.specs.Members.{In, first, later}
use Rattle.document_laws.proofs.Lists.{joined}
pub use Rattle.document_laws.proofs.Listed.{in_first as in_front, in_second as in_rest, in_map as in_mapped}

infixr 5 ◌&◌
-- a pair, that a fact of each element be written in a row
abbrev pub ◌&◌ : {A B : Type 0} → A → B → A × B
h & hs = (h, hs)

pub each_in : {A : Type 0} (P : A → Type 0) (xs : List A) → AllByRecursion P xs → (x : A) → In x xs → P x
each_in P [] h x i = elim i [ ]
each_in P (y ∷ xs) h x first = h.0
each_in P (y ∷ xs) h x (later i) = each_in P xs h.1 x i

pub each_so : {A : Type 0} (P Q : A → Type 0) → ((x : A) → P x → Q x) → (xs : List A) → AllByRecursion P xs → AllByRecursion Q xs
each_so P Q f [] h = tt
each_so P Q f (x ∷ xs) h = (f x h.0, each_so P Q f xs h.1)

pub each_mapped : {A B : Type 0} (P : A → Type 0) (Q : B → Type 0) (f : A → B) → ((x : A) → P x → Q (f x))
    → (xs : List A) → AllByRecursion P xs → AllByRecursion Q (map f xs)
each_mapped P Q f g [] h = tt
each_mapped P Q f g (x ∷ xs) h = (g x h.0, each_mapped P Q f g xs h.1)

pub each_laid_flat : {A B : Type 0} (P : A → Type 0) (Q : B → Type 0) (f : A → List B) → ((x : A) → P x → AllByRecursion Q (f x))
    → (xs : List A) → AllByRecursion P xs → AllByRecursion Q (flat_map f xs)
each_laid_flat P Q f g [] h = tt
each_laid_flat P Q f g (x ∷ xs) h = joined Q (f x) (flat_map f xs) (g x h.0) (each_laid_flat P Q f g xs h.1)

pub each_kept : {A : Type 0} (P : A → Type 0) (test : A → Bool) (xs : List A) → AllByRecursion P xs → AllByRecursion P (filter test xs)
each_kept P test [] h = tt
each_kept P test (x ∷ xs) h = by (test x) (each_kept P test xs h.1)
  where
    by : (b : Bool) → AllByRecursion P (filter test xs) → AllByRecursion P (cond b (x ∷ filter test xs) (filter test xs))
    by true rest = (h.0, rest)
    by false rest = rest
