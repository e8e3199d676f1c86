-- What holds of each target, where it holds of bearers and of what pointers from them lead to.
use Rattle.std.proofs.Common.{◌≡◌, ◌==◌, ℕ, List, [], ◌∷◌, Bool, Option, Some, None, Ok, Err, IfOk}
use Rattle.std.specs.Str.{is_utf8}
use Rattle.std.specs.Prelude.{◌&&◌, IfSome, if◌then◌else◌, is_some, option_and_then}
use Rattle.percent_encoding.specs.Percent.{percent_decode}
use Rattle.uri_grammar.specs.Texts.{cut_at, has, pieces}
use Rattle.schema_definitions.specs.Words.{or, last_that, has_text, result_map, ok_or, and_then}
use Rattle.schema_definitions.specs.Identifiers.{resolved, is_name, anchors, dynamic_anchors}
use Rattle.schema_definitions.specs.Places.{Dialect}
use Rattle.schema_definitions.specs.Bearers.{Documents, Standing, bears, bears_anchor, last_standing, bearer_under, bearer, anchored_under, dynamically_anchored, meta}
use Rattle.schema_definitions.specs.Lookup.{LookupCause, Target, unretrievable, invalid_uri, invalid_anchor, no_such_anchor, invalid_percent_encoding, behind_first, ended, target_of, walk, by_pointer, by_anchor, by_fragment, lookup_under, lookup}
use Rattle.schema_definitions.specs.Scopes.{outermost, dynamic_lookup, end_of_run, recurs, recursive_lookup}
use Rattle.document_laws.specs.TargetLaws.{IsTarget, by_reference, by_scope, by_run}
use Rattle.document_laws.proofs.Results.{ok_next, ok_map, ok_some, ok_either, some_next, of_ok}
use Rattle.document_laws.proofs.Reaching.{start}

-- of the last standing that passes a test, of what a pointer from one leads to, and of one itself
pub record Holds (docs : Documents) (told : List ℕ → Option Dialect) (S : Standing → Type 0) (T : Target → Type 0) : Type 0 where
  pub last : (test : Standing → Bool) → IfSome (last_standing test told docs) S
  pub along : (s : Standing) → S s → (written : List ℕ) (tokens : List (List ℕ)) → IfOk (walk told written tokens (start s.place)) (λ w. T (ended s w))
  pub itself : (s : Standing) → S s → T (target_of s)

module _ (docs : Documents) (S : Standing → Type 0) (T : Target → Type 0) where
  module _ (told : List ℕ → Option Dialect) (h : Holds docs told S T) where
    by_pointer_holds : (s : Standing) → S s → (written decoded : List ℕ) → IfOk (by_pointer told s written decoded) T
    by_pointer_holds s i written decoded =
        let reached = walk told written (behind_first (pieces 47 decoded)) (start s.place) in
        ok_either T (is_utf8 decoded) (result_map (ended s) reached) (Err (invalid_percent_encoding written))
        (ok_map (λ w. T (ended s w)) T reached (ended s) (h.along s i written (behind_first (pieces 47 decoded))) (λ w t. t)) tt

    by_anchor_holds : (s : Standing) (k : List ℕ) → IfOk (by_anchor told docs s k) T
    by_anchor_holds s k =
        let found = ok_or (no_such_anchor k) (anchored_under told docs s.place.base k) in
        ok_either T (has 47 k) (Err (invalid_anchor k)) (result_map target_of found) tt
        (ok_map S T found target_of
        (ok_some S (no_such_anchor k) (anchored_under told docs s.place.base k) (h.last (bears_anchor anchors s.place.base k))) h.itself)

    by_fragment_holds : (s : Standing) → S s → (f : List ℕ) → IfOk (by_fragment told docs s f) T
    by_fragment_holds s i [] = h.itself s i
    by_fragment_holds s i (b ∷ f) =
        ok_either T (b == 47) (by_pointer told s (b ∷ f) (percent_decode (b ∷ f))) (by_anchor told docs s (b ∷ f))
        (by_pointer_holds s i (b ∷ f) (percent_decode (b ∷ f))) (by_anchor_holds s (b ∷ f))

    by_bearer_holds : (uri f : List ℕ) → IfOk (and_then (ok_or (unretrievable uri) (bearer_under told docs uri)) (λ s. by_fragment told docs s f)) T
    by_bearer_holds uri f =
        ok_next S T (ok_or (unretrievable uri) (bearer_under told docs uri)) (λ s. by_fragment told docs s f)
        (ok_some S (unretrievable uri) (bearer_under told docs uri) (h.last (bears uri))) (λ s i. by_fragment_holds s i f)

    resolved_holds : (cause : LookupCause) (o : Option (List ℕ)) (f : List ℕ)
        → IfOk (and_then (ok_or cause o) (λ uri. and_then (ok_or (unretrievable uri) (bearer_under told docs uri)) (λ s. by_fragment told docs s f))) T
    resolved_holds cause None f = tt
    resolved_holds cause (Some uri) f = by_bearer_holds uri f

    lookup_holds : (base reference : List ℕ) → IfOk (lookup_under told docs base reference) T
    unfolding lookup_under
    lookup_holds base reference =
        let c = cut_at 35 reference in
        resolved_holds (invalid_uri c.0) (resolved base c.0) (or [] c.1)

    pub of_lookup : (base reference : List ℕ) (t : Target) → lookup_under told docs base reference ≡ Ok t → T t
    of_lookup base reference t e = of_ok T (lookup_under told docs base reference) t (lookup_holds base reference) e

  module _ (h : Holds docs (meta docs) S T) where
    outermost_holds : (k : List ℕ) (resources : List (List ℕ)) → IfOk (outermost docs k resources) T
    outermost_holds k resources =
        let last = last_that (λ u. is_some (dynamically_anchored docs u k)) resources in
        let found = option_and_then (λ u. dynamically_anchored docs u k) last in
        ok_map S T (ok_or (no_such_anchor k) found) target_of
        (ok_some S (no_such_anchor k) found
        (some_next S last (λ u. dynamically_anchored docs u k) (λ u. h.last (bears_anchor dynamic_anchors u k)))) h.itself

    pub of_scope : (base : List ℕ) (scope : List (List ℕ)) (reference : List ℕ) (t : Target) → dynamic_lookup docs base scope reference ≡ Ok t → T t
    of_scope base scope reference t e =
        let k = or [] (cut_at 35 reference).1 in
        of_ok T (dynamic_lookup docs base scope reference) t
        (ok_next T T (lookup docs base reference)
        (λ u. if is_name k && has_text k (dynamic_anchors u.dialect u.contents) then outermost docs k (u.base ∷ scope) else Ok u)
        (lookup_holds (meta docs) h base reference)
        (λ u i. ok_either T (is_name k && has_text k (dynamic_anchors u.dialect u.contents)) (outermost docs k (u.base ∷ scope)) (Ok u)
        (outermost_holds k (u.base ∷ scope)) i)) e

    pub of_run : (base : List ℕ) (scope : List (List ℕ)) (t : Target) → recursive_lookup docs base scope ≡ Ok t → T t
    of_run base scope t e =
        let uri = if recurs docs base then end_of_run docs base scope else base in
        of_ok T (recursive_lookup docs base scope) t
        (ok_map S T (ok_or (unretrievable uri) (bearer docs uri)) target_of (ok_some S (unretrievable uri) (bearer docs uri) (h.last (bears uri))) h.itself) e

    pub of_target : (t : Target) → IsTarget docs t → T t
    of_target t (by_reference base reference e) = of_lookup (meta docs) h base reference t e
    of_target t (by_scope base scope reference e) = of_scope base scope reference t e
    of_target t (by_run base scope e) = of_run base scope t e
