-- An answer of an index, and the last schema place of the documents.
use Rattle.std.proofs.Common.{◌≡◌, ℕ, zero, suc, ◌+◌, ◌<◌, List, [], ◌∷◌, ◌++◌, map, length, Bool, true, false, not, ◌&&◌, if◌then◌else◌, Option, Some, None, option_map, is_some, refl, sym, ap, ◌∙◌, subst, zero-add, add-zero, arith}
use Rattle.std.specs.Prelude.{IsSomeAnd, slice_get, Contains}
use Rattle.std.specs.List.{flat_map, enumerate_from, AllByRecursion}
use Rattle.std.proofs.lemmas.List.Elements.{Contains-append_right}
use Rattle.schema_definitions.specs.Words.{or_else, last_that}
use Rattle.schema_definitions.specs.Bearers.{Document, Standing, standing_in, last_standing}
use Rattle.schema_definitions.specs.Places.{Dialect}
use Rattle.document_index.specs.Located.{Located, standings_at, located_standings, last_located, Kept, kept_of}
use Rattle.document_index.specs.Answers.{IsAnswer}
use Rattle.document_index.proofs.LocatedLemmas.{standings-located}

all-append : {X : Type 0} (P : X → Type 0) (xs ys : List X) → AllByRecursion P xs → AllByRecursion P ys → AllByRecursion P (xs ++ ys)
all-append P [] ys a b = b
all-append P (x ∷ xs) ys a b = (a.0, all-append P xs ys a.1 b)

all-map : {X Y : Type 0} (P : Y → Type 0) (f : X → Y) (xs : List X) → ((x : X) → Contains xs x → P (f x)) → AllByRecursion P (map f xs)
all-map P f [] h = tt
all-map P f (x ∷ xs) h = (h x (0, omega arith, refl), all-map P f xs (λ y m. h y (Contains-append_right (x ∷ []) xs y m)))

-- each place is one of the document at its position
all-from : (meta : List ℕ → Option Dialect) (P : Located → Type 0) (n : ℕ) (documents : List Document)
    → ((k : ℕ) (d : Document) (s : Standing) → slice_get documents k ≡ Some d → Contains (standing_in meta d) s → P (record { document = n + k; standing = s }))
    → AllByRecursion P (flat_map (standings_at meta) (enumerate_from n documents))
all-from meta P n [] h = tt
all-from meta P n (d ∷ ds) h =
    all-append P (standings_at meta (n, d)) (flat_map (standings_at meta) (enumerate_from (n + 1) ds))
    (all-map P (λ s. record { document = n; standing = s }) (standing_in meta d) (λ s m. subst (λ i. P (record { document = i; standing = s })) (add-zero n) (h 0 d s refl m)))
    (all-from meta P (n + 1) ds (λ k e s is m.
    let shifted : n + suc k ≡ n + 1 + k = omega arith in
    subst (λ i. P (record { document = i; standing = s })) shifted (h (suc k) e s is m)))

abbrev Stands : (List ℕ → Option Dialect) → List Document → Located → Type 0
Stands meta documents l = IsSomeAnd (slice_get documents l.document) (λ d. Contains (standing_in meta d) l.standing)

all-stand : (meta : List ℕ → Option Dialect) (documents : List Document) → AllByRecursion (Stands meta documents) (located_standings meta documents)
unfolding located_standings
all-stand meta documents =
    all-from meta (Stands meta documents) 0 documents (λ k d s is m.
    subst (λ o. IsSomeAnd o (λ e. Contains (standing_in meta e) s)) (sym (ap (slice_get documents) (zero-add k) ∙ is)) m)

-- the last that passes is one of them, and passes
module _ {X : Type 0} (test : X → Bool) (P : X → Type 0) where
  by_test : (b : Bool) (y x : X) → test y ≡ b → P y → (if b then Some y else None) ≡ Some x → P x × (test x ≡ true)
  by_test true y x is p e = let same : y ≡ x = cc in subst (λ z. P z × (test z ≡ true)) same (p, is)
  by_test false y x is p e = absurd (cc (e))

  by_rest : (y x : X) (rest : Option X) → P y → (rest ≡ Some x → P x × (test x ≡ true)) → or_else rest (if test y then Some y else None) ≡ Some x → P x × (test x ≡ true)
  by_rest y x None p later e = by_test (test y) y x refl p e
  by_rest y x (Some z) p later e = later e

  last_that-holds : (xs : List X) (x : X) → AllByRecursion P xs → last_that test xs ≡ Some x → P x × (test x ≡ true)
  last_that-holds [] x a e = absurd (cc (e))
  last_that-holds (y ∷ ys) x a e = by_rest y x (last_that test ys) a.0 (last_that-holds ys x a.1) e

mapped : {X Y : Type 0} (f : X → Y) (x : X) (o : Option X) (b : Bool) → or_else (option_map f o) (if b then Some (f x) else None) ≡ option_map f (or_else o (if b then Some x else None))
mapped f x None true = refl
mapped f x None false = refl
mapped f x (Some y) b = refl

last_that-map : {X Y : Type 0} (f : X → Y) (test : Y → Bool) (xs : List X) → last_that test (map f xs) ≡ option_map f (last_that (λ x. test (f x)) xs)
last_that-map f test [] = refl
last_that-map f test (x ∷ xs) =
    ap (λ o. or_else o (if test (f x) then Some (f x) else None)) (last_that-map f test xs) ∙ mapped f x (last_that (λ y. test (f y)) xs) (test (f x))

pub last-of-located : (meta : List ℕ → Option Dialect) (test : Standing → Bool) (documents : List Document) → last_standing test meta documents ≡ option_map (λ (l : Located). l.standing) (last_located test (located_standings meta documents))
last-of-located meta test documents =
    ap (last_that test) (sym (standings-located meta documents))
    ∙ last_that-map (λ (l : Located). l.standing) test (located_standings meta documents)

pub settled : {X : Type 0} (o : Option X) (b : Bool) → (not (is_some o) && b) ≡ true → o ≡ None
settled None b e = refl
settled (Some x) b e = absurd (cc (e))

by_last : (meta : List ℕ → Option Dialect) (test : Standing → Bool) (documents : List Document) → ((s : Standing) → test s ≡ true → s.place.awaits ≡ None)
    → (o : Option Located) → last_located test (located_standings meta documents) ≡ o → IsAnswer meta documents (option_map kept_of o) (option_map (λ (l : Located). l.standing) o)
by_last meta test documents knows None is = tt
by_last meta test documents knows (Some l) is =
    let holds = last_that-holds (λ (m : Located). test m.standing) (Stands meta documents) (located_standings meta documents) l (all-stand meta documents) is in
    record { path = refl; base = refl; dialect = refl; awaits = knows l.standing holds.1; stands = holds.0 }

pub answers : (meta : List ℕ → Option Dialect) (test : Standing → Bool) (documents : List Document) → ((s : Standing) → test s ≡ true → s.place.awaits ≡ None)
    → (o : Option Kept) → o ≡ option_map kept_of (last_located test (located_standings meta documents)) → IsAnswer meta documents o (last_standing test meta documents)
answers meta test documents knows o e =
    subst (λ p. IsAnswer meta documents p (last_standing test meta documents)) (sym e)
    (subst (λ p. IsAnswer meta documents (option_map kept_of (last_located test (located_standings meta documents))) p) (sym (last-of-located meta test documents))
    (by_last meta test documents knows (last_located test (located_standings meta documents)) refl))

within : {X : Type 0} (P : X → Type 0) (xs : List X) (i : ℕ) → IsSomeAnd (slice_get xs i) P → i < length xs
within P [] i h = absurd h
within P (x ∷ xs) zero h = omega arith
within P (x ∷ xs) (suc i) h = let below = within P xs i h in omega arith

pub answer-within : (meta : List ℕ → Option Dialect) (documents : List Document) (kept : Kept) (o : Option Standing) → IsAnswer meta documents (Some kept) o → kept.document < length documents
answer-within meta documents kept None h = absurd h
answer-within meta documents kept (Some s) h = within (λ d. Contains (standing_in meta d) s) documents kept.document h.stands
