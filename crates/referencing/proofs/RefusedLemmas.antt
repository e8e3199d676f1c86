-- Answers and refusals of lookups.
use borrow.Author.Tests.{eqb-true}
use Rattle.std.proofs.Common.{◌≡◌, ◌==◌, ◌≤◌, refl, sym, ap, arith, length, get_or, Bool, true, false, if◌then◌else◌, ℕ, List, [], ◌∷◌, Option, Some, None, Result, Ok, Err, IfErr, IfSome, MatchOption, ◌⊎◌, inl, inr}
use Rattle.percent_encoding.specs.Percent.{percent_decode}
use Rattle.uri_grammar.specs.Texts.{cut_at}
use Rattle.schema_definitions.specs.Words.{or, ok_or, and_then}
use Rattle.schema_definitions.specs.Identifiers.{resolved}
use Rattle.schema_definitions.specs.Places.{Dialect}
use Rattle.schema_definitions.specs.Bearers.{Document, Documents, Standing, meta}
use Rattle.schema_definitions.specs.Lookup.{LookupCause, invalid_uri, by_pointer, by_anchor, by_fragment, lookup, lookup_under}
use Rattle.document_sources.specs.Causes.{IsMemory, NamesLookup, RefusesLookup}
use Rattle.document_sources.specs.declared.error.Error.{Error}
use Rattle.referencing.specs.Found.{bearer_at, bearer_wanted}

pub refused-one : {T : Type 0} (answer : Result T LookupCause) (cause : LookupCause) (e : Error) → answer ≡ Err cause → IsMemory e ⊎ NamesLookup cause e → RefusesLookup answer e
refused-one answer cause e is (inl m) = inl m
refused-one answer cause e is (inr n) = inr (cause, is, n)

pub walked : {T : Type 0} (answer : Result T LookupCause) (o : Option LookupCause) (e : Error) → IfSome o (λ cause. answer ≡ Err cause) → MatchOption o (IsMemory e) (λ cause. NamesLookup cause e) → RefusesLookup answer e
walked answer None e h m = inl m
walked answer (Some cause) e h n = inr (cause, h, n)

pub refused-through : {A B : Type 0} (answer : Result A LookupCause) (f : A → Result B LookupCause) (e : Error) → RefusesLookup answer e → RefusesLookup (and_then answer f) e
refused-through answer f e (inl m) = inl m
refused-through answer f e (inr n) = inr (n.0, ap (λ r. and_then r f) n.1, n.2)

in_turn : {A B C E : Type 0} (r : Result A E) (f : A → Result B E) (g : B → Result C E) → and_then r (λ x. and_then (f x) g) ≡ and_then (and_then r f) g
in_turn (Ok x) f g = refl
in_turn (Err e) f g = refl

pub looked-up : (documents : List Document) (base reference : List ℕ)
    → lookup documents base reference
    ≡ and_then (bearer_wanted documents base (cut_at 35 reference).0) (λ s. by_fragment (meta documents) documents s (or [] (cut_at 35 reference).1))
unfolding lookup_under
looked-up documents base reference =
    in_turn (ok_or (invalid_uri (cut_at 35 reference).0) (resolved base (cut_at 35 reference).0)) (bearer_at documents) (λ s. by_fragment (meta documents) documents s (or [] (cut_at 35 reference).1))

pub if-err : {X E : Type 0} (P Q : E → Type 0) (r : Result X E) → ((e : E) → P e → Q e) → IfErr r P → IfErr r Q
if-err P Q (Ok x) h p = p
if-err P Q (Err e) h p = h e p

never : (b : Bool) → (b ≡ true → ⊥) → b ≡ false
never true n = absurd (n refl)
never false n = refl

-- a fragment that begins with no `/` is an anchor
pub by-name : (meta : List ℕ → Option Dialect) (docs : Documents) (s : Standing) (f : List ℕ) → 1 ≤ length f → (get_or f 0 0 ≡ 47 → ⊥) → by_anchor meta docs s f ≡ by_fragment meta docs s f
by-name meta docs s [] some other = absurd (omega (arith, some))
by-name meta docs s (b ∷ f) some other =
    sym (ap (λ t. if t then by_pointer meta s (b ∷ f) (percent_decode (b ∷ f)) else by_anchor meta docs s (b ∷ f)) (never (b == 47) (λ e. other (eqb-true b 47 e))))
