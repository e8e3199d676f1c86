-- Words on lists and results that definitions share.
use Rattle.std.specs.Prelude.{ℕ, zero, suc, List, [], ◌∷◌, ◌++◌, Bool, bytes_eq, if◌then◌else◌, Option, Some, None, option_and_then, Result, Ok, Err}
use Rattle.std.specs.List.{list_any, flat_map}
pub use Rattle.schema_drafts.specs.Identifiers.{text_at}

abbrev pub or : {X : Type 0} → X → Option X → X
or x None = x
or x (Some y) = y

abbrev pub or_else : {X : Type 0} → Option X → Option X → Option X
or_else (Some x) o = Some x
or_else None o = o

-- the last that passes
abbrev pub last_that : {X : Type 0} → (X → Bool) → List X → Option X
last_that test [] = None
last_that test (x ∷ xs) = or_else (last_that test xs) (if test x then Some x else None)

abbrev pub listed : {X : Type 0} → Option X → List X
listed None = []
listed (Some x) = x ∷ []

abbrev pub has_text : List ℕ → List (List ℕ) → Bool
has_text k texts = list_any (bytes_eq k) texts

abbrev pub result_map : {X Y E : Type 0} → (X → Y) → Result X E → Result Y E
result_map f (Ok x) = Ok (f x)
result_map f (Err e) = Err e

abbrev pub ok_or : {X E : Type 0} → E → Option X → Result X E
ok_or e None = Err e
ok_or e (Some x) = Ok x

abbrev pub and_then : {X Y E : Type 0} → Result X E → (X → Result Y E) → Result Y E
and_then (Ok x) f = f x
and_then (Err e) f = Err e

-- those given, then their children, then theirs, down to a depth
abbrev pub levels : {P : Type 0} → (P → List P) → ℕ → List P → List P
levels children zero ps = []
levels children (suc n) ps = ps ++ levels children n (flat_map children ps)
