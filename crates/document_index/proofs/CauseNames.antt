-- Errors that name one of several causes.
use Rattle.std.proofs.Common.{◌≡◌, ◌∙◌, sym, ap, subst, refl, List, [], ◌∷◌, ◌++◌, ◌⊎◌, inl, inr, Option, Some, None, option_map, is_some, Result, Ok, Err, IfErr, slice_get, length, ◌==◌}
use Rattle.json_values.specs.Parts.{Part}
use Rattle.schema_definitions.specs.Bearers.{is_root}
use Rattle.std.specs.Result.{IsErrAnd}
use Rattle.std.proofs.Math.Dec.{eqb-suc-zero}
use Rattle.schema_meaning.specs.Members.{In, first, later}
use Rattle.schema_definitions.specs.DocumentCauses.{DocumentCause}
use Rattle.document_sources.specs.Causes.{IsMemory, NamesDocument}
use Rattle.document_sources.specs.declared.error.Error.{Error}
use Rattle.document_index.specs.Named.{NamesOne}

pub named-one : (cause : DocumentCause) (e : Error) → IsMemory e ⊎ NamesDocument cause e → NamesOne (cause ∷ []) e
named-one cause e (inl m) = inl m
named-one cause e (inr n) = inr (cause, first, n)

pub named-in : (causes : List DocumentCause) (cause : DocumentCause) (e : Error) → In cause causes → IsMemory e ⊎ NamesDocument cause e → NamesOne causes e
named-in causes cause e i (inl m) = inl m
named-in causes cause e i (inr n) = inr (cause, i, n)

in-before : {c : DocumentCause} (xs ys : List DocumentCause) → In c xs → In c (xs ++ ys)
in-before {c = c} [] ys i = elim i [ ]
in-before (x ∷ xs) ys first = first
in-before (x ∷ xs) ys (later i) = later (in-before xs ys i)

in-behind : {c : DocumentCause} (xs ys : List DocumentCause) → In c ys → In c (xs ++ ys)
in-behind [] ys i = i
in-behind (x ∷ xs) ys i = later (in-behind xs ys i)

pub named-before : (xs ys : List DocumentCause) (e : Error) → NamesOne xs e → NamesOne (xs ++ ys) e
named-before xs ys e (inl m) = inl m
named-before xs ys e (inr n) = inr (n.0, in-before xs ys n.1, n.2)

pub named-behind : (xs ys : List DocumentCause) (e : Error) → NamesOne ys e → NamesOne (xs ++ ys) e
named-behind xs ys e (inl m) = inl m
named-behind xs ys e (inr n) = inr (n.0, in-behind xs ys n.1, n.2)

pub is_some-map : {X Y : Type 0} (f : X → Y) (o : Option X) → is_some (option_map f o) ≡ is_some o
is_some-map f None = refl
is_some-map f (Some x) = refl

-- an error that `?` passes on
pub kept : {X : Type 0} (r : Result X Error) (e : Error) (P : Error → Type 0) → IsErrAnd r (λ x. x ≡ e) → P e → IfErr r P
kept (Ok v) e P is h = absurd is
kept (Err x) e P is h = subst P (sym is) h

-- the first of several is one of them
pub first-in : (xs : List DocumentCause) (x : DocumentCause) → slice_get xs 0 ≡ Some x → In x xs
first-in [] x e = absurd (cc (e))
first-in (y ∷ ys) x e = let same : y ≡ x = cc in subst (λ z. In z (y ∷ ys)) same first

pub nothing-before : (xs ys : List DocumentCause) → xs ≡ [] → ys ≡ [] → xs ++ ys ≡ []
nothing-before xs ys e h = ap (λ l. l ++ ys) e ∙ h

pub if-err : {X E : Type 0} (P Q : E → Type 0) (r : Result X E) → ((e : E) → P e → Q e) → IfErr r P → IfErr r Q
if-err P Q (Ok x) h p = p
if-err P Q (Err e) h p = h e p

pub root-length : (path : List Part) → (length path == 0) ≡ is_root path
root-length [] = refl
root-length (p ∷ ps) = eqb-suc-zero (length ps)
