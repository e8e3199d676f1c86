-- A walk by several parts, one part at a time.
use Rattle.std.proofs.Common.{◌≡◌, ℕ, ◌+◌, ◌<◌, List, length, get_or, drop, Option, Result, Ok, Err, true, refl, IfErr, ap, sym, subst, ◌∙◌}
use Rattle.std.specs.Result.{IsErrAnd}
use Rattle.std.proofs.lemmas.List.{at_drop_more}
use Rattle.std.proofs.lemmas.Option.{IfSome_then}
use Rattle.std.specs.Str.{is_utf8}
use Rattle.uri_grammar.specs.Texts.{pieces}
use Rattle.schema_definitions.specs.Words.{and_then, result_map}
use Rattle.schema_definitions.specs.Bearers.{Standing}
use Rattle.schema_definitions.specs.Lookup.{Walk, LookupCause, step_to, walk, behind_first, ended, by_pointer}
use Rattle.schema_definitions.specs.Places.{Dialect}
use Rattle.schema_places.specs.declared.error.WalkError.{WalkError}
use Rattle.schema_places.specs.Walks.{begun}
use Rattle.schema_places.specs.Causes.{cause_of, Refuses}

walk_at : (meta : List ℕ → Option Dialect) (written : List ℕ) (parts : List (List ℕ)) (n : ℕ) (token : List ℕ) (w : Walk) → n < length parts → token ≡ get_or parts n token
    → walk meta written (drop n parts) w ≡ and_then (step_to meta written token w w.contents) (walk meta written (drop (n + 1) parts))
walk_at meta written parts n token w within is =
    at_drop_more (λ ps. walk meta written ps w) parts n token within
    ∙ ap (λ t. and_then (step_to meta written t w w.contents) (walk meta written (drop (n + 1) parts))) (sym is)

-- a part that leads on
pub walk_on : (meta : List ℕ → Option Dialect) (written : List ℕ) (parts : List (List ℕ)) (n : ℕ) (token : List ℕ) (w v : Walk) → n < length parts → token ≡ get_or parts n token
    → step_to meta written token w w.contents ≡ Ok v → walk meta written (drop n parts) w ≡ walk meta written (drop (n + 1) parts) v
walk_on meta written parts n token w v within is e =
    walk_at meta written parts n token w within is ∙ ap (λ r. and_then r (walk meta written (drop (n + 1) parts))) e

-- a part that does not
pub walk_stops : (meta : List ℕ → Option Dialect) (written : List ℕ) (parts : List (List ℕ)) (n : ℕ) (token : List ℕ) (w : Walk) (e : WalkError) → n < length parts → token ≡ get_or parts n token
    → Refuses (step_to meta written token w w.contents) e → Refuses (walk meta written (drop n parts) w) e
walk_stops meta written parts n token w e within is h =
    IfSome_then (cause_of e) h (λ cause stopped. walk_at meta written parts n token w within is ∙ ap (λ r. and_then r (walk meta written (drop (n + 1) parts))) stopped)

pub refuses_same : (r s : Result Walk LookupCause) (e : WalkError) → r ≡ s → Refuses r e → Refuses s e
refuses_same r s e same h = IfSome_then (cause_of e) h (λ cause stopped. sym same ∙ stopped)

-- an error that `?` passes on
pub kept : {X : Type 0} (r : Result X WalkError) (e : WalkError) (P : WalkError → Type 0) → IsErrAnd r (λ x. x ≡ e) → P e → IfErr r P
kept (Ok v) e P is h = absurd is
kept (Err x) e P is h = subst P (sym is) h

-- a fragment whose decoded bytes are a text
pub decoded : (meta : List ℕ → Option Dialect) (s : Standing) (written bytes : List ℕ) → is_utf8 bytes ≡ true
    → by_pointer meta s written bytes ≡ result_map (ended s) (walk meta written (behind_first (pieces 47 bytes)) (begun s.place))
decoded meta s written bytes valid = rw valid refl
