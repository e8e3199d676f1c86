-- The last document of a URI.
use Rattle.std.proofs.Common.{◌≡◌, ◌∙◌, ◌++◌, List, [], ◌∷◌, Bool, true, false, Option, Some, None, map, reverse, option_map, find, refl, sym, ap}
use Rattle.std.proofs.lemmas.List.{map-append, reverse-append}
use Rattle.std.proofs.lemmas.List.Folds.{find-append}
use Rattle.std.specs.Cmp.{first_so, second_so}
use Rattle.std.specs.List.{list_all}
use Rattle.std.specs.Option.{option_or}
use Rattle.std.specs.Prelude.{ℕ, bytes_eq, if◌then◌else◌}
use Rattle.schema_definitions.specs.Words.{or_else, last_that}
use Rattle.schema_definitions.specs.Bearers.{Document}
use Rattle.json_values.specs.Rising.{rises}
use Rattle.document_laws.specs.TargetLaws.{contents_rise}
use Rattle.schema_registries.specs.Pointers.{document_at, IsDocumentAt}

-- ---- the last that passes is the first from the end

or_same : {X : Type 0} (o p : Option X) → option_or o p ≡ or_else o p
or_same None p = refl
or_same (Some x) p = refl

from_end : {X : Type 0} (test : X → Bool) (xs : List X) → find test (reverse xs) ≡ last_that test xs
from_end test [] = refl
from_end test (x ∷ xs) =
    ap (find test) (reverse-append (x ∷ []) xs)
    ∙ find-append test (reverse xs) (x ∷ [])
    ∙ or_same (find test (reverse xs)) (find test (x ∷ []))
    ∙ ap (λ o. or_else o (find test (x ∷ []))) (from_end test xs)

-- ---- what is found through a function

mapped : {A B C : Type 0} (f : B → C) (g : A → B) (o : Option A) → option_map (λ x. f (g x)) o ≡ option_map f (option_map g o)
mapped f g None = refl
mapped f g (Some x) = refl

moved_by : {B C : Type 0} (f : B → C) (b : Bool) (x : B) (o : Option B) (p : Option C) → option_map f o ≡ p
    → option_map f (if b then Some x else o) ≡ (if b then Some (f x) else p)
moved_by f true x o p h = refl
moved_by f false x o p h = h

moved : {B C : Type 0} (f : B → C) (test : C → Bool) (xs : List B) → option_map f (find (λ x. test (f x)) xs) ≡ find test (map f xs)
moved f test [] = refl
moved f test (x ∷ xs) = moved_by f (test (f x)) x (find (λ y. test (f y)) xs) (find test (map f xs)) (moved f test xs)

turned : {B C : Type 0} (f : B → C) (xs : List B) → map f (reverse xs) ≡ reverse (map f xs)
turned f [] = refl
turned f (x ∷ xs) =
    ap (map f) (reverse-append (x ∷ []) xs)
    ∙ map-append f (reverse xs) (x ∷ [])
    ∙ ap (λ ys. ys ++ f x ∷ []) (turned f xs)
    ∙ sym (reverse-append (f x ∷ []) (map f xs))

pub found_through : {A B C : Type 0} (f : B → C) (g : A → B) (test : C → Bool) (o : Option A) (xs : List B) → option_map g o ≡ find (λ x. test (f x)) (reverse xs)
    → option_map (λ x. f (g x)) o ≡ last_that test (map f xs)
found_through f g test o xs e =
    mapped f g o ∙ ap (option_map f) e ∙ moved f test (reverse xs) ∙ ap (find test) (turned f xs) ∙ from_end test (map f xs)

-- ---- documents

abbrev Rises : Option Document → Type 0
Rises o = (d : Document) → o ≡ Some d → rises d.contents ≡ true

either_rises : (o p : Option Document) → Rises o → Rises p → Rises (or_else o p)
either_rises (Some e) p r s = r
either_rises None p r s = s

one_rises : (b : Bool) (e : Document) → rises e.contents ≡ true → Rises (if b then Some e else None)
one_rises true e r d h = (let same : d ≡ e = cc in ap (λ (x : Document). rises x.contents) same ∙ r)
one_rises false e r d h = absurd (cc (h))

-- a document that is found has names that rise, where those of each do
pub found_rises : (documents : List Document) (uri : List ℕ) (d : Document) → list_all contents_rise documents ≡ true → IsDocumentAt documents uri d
    → rises d.contents ≡ true
found_rises [] uri d r h = absurd (cc (h))
found_rises (e ∷ documents) uri d r h =
    either_rises (document_at documents uri) (if bytes_eq e.uri uri then Some e else None)
    (λ x. found_rises documents uri x (second_so (contents_rise e) (list_all contents_rise documents) r))
    (one_rises (bytes_eq e.uri uri) e (first_so (contents_rise e) (list_all contents_rise documents) r)) d h
