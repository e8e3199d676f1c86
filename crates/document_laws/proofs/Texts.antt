-- A pointer that leads somewhere is, percent-decoded, a text.
use Rattle.std.proofs.Common.{◌≡◌, ◌==◌, ℕ, List, [], ◌∷◌, Bool, true, false, Option, Some, None, Result, Err, IfOk, refl}
use Rattle.std.specs.Str.{is_utf8}
use Rattle.std.specs.Prelude.{if◌then◌else◌}
use Rattle.percent_encoding.specs.Percent.{percent_decode}
use Rattle.uri_grammar.specs.Texts.{cut_at, pieces}
use Rattle.schema_definitions.specs.Words.{or, result_map, ok_or, and_then}
use Rattle.schema_definitions.specs.Identifiers.{resolved}
use Rattle.schema_definitions.specs.Bearers.{Documents, Standing, bearer_under, meta}
use Rattle.schema_definitions.specs.Lookup.{LookupCause, Target, Walk, at_place, unretrievable, invalid_uri, invalid_percent_encoding, behind_first, ended, walk, by_pointer, by_anchor, by_fragment, lookup_under, lookup}
use Rattle.schema_definitions.specs.Places.{Dialect}
use Rattle.document_laws.specs.TargetLaws.{fragment_reads, reads_as_path, LookupsRead}
use Rattle.document_laws.proofs.Results.{ok_always, of_ok}

-- a result that is there only where a test passes
where_so : (b : Bool) (r : Result Target LookupCause) (cause : LookupCause) → IfOk (if b then r else Err cause) (λ t. b ≡ true)
where_so true r cause = ok_always (λ t. true ≡ true) r (λ t. refl)
where_so false r cause = tt

module _ (docs : Documents) (told : List ℕ → Option Dialect) where
  pointer_reads : (s : Standing) (written decoded : List ℕ) → IfOk (by_pointer told s written decoded) (λ t. is_utf8 decoded ≡ true)
  pointer_reads s written decoded =
      let from : Walk = record { path = s.place.path; contents = s.place.contents; last = s.place; within = at_place } in
      where_so (is_utf8 decoded) (result_map (ended s) (walk told written (behind_first (pieces 47 decoded)) from)) (invalid_percent_encoding written)

  by_slash : (slash : Bool) (s : Standing) (f : List ℕ)
      → IfOk (if slash then by_pointer told s f (percent_decode f) else by_anchor told docs s f) (λ t. (if slash then is_utf8 (percent_decode f) else true) ≡ true)
  by_slash true s f = pointer_reads s f (percent_decode f)
  by_slash false s f = ok_always (λ t. true ≡ true) (by_anchor told docs s f) (λ t. refl)

  fragment_read : (s : Standing) (f : List ℕ) → IfOk (by_fragment told docs s f) (λ t. fragment_reads f ≡ true)
  fragment_read s [] = refl
  fragment_read s (b ∷ f) = by_slash (b == 47) s (b ∷ f)

  bearer_reads : (cause : LookupCause) (o : Option Standing) (f : List ℕ)
      → IfOk (and_then (ok_or cause o) (λ s. by_fragment told docs s f)) (λ t. fragment_reads f ≡ true)
  bearer_reads cause None f = tt
  bearer_reads cause (Some s) f = fragment_read s f

  resolved_reads : (cause : LookupCause) (o : Option (List ℕ)) (f : List ℕ)
      → IfOk (and_then (ok_or cause o) (λ uri. and_then (ok_or (unretrievable uri) (bearer_under told docs uri)) (λ s. by_fragment told docs s f)))
      (λ t. fragment_reads f ≡ true)
  resolved_reads cause None f = tt
  resolved_reads cause (Some uri) f = bearer_reads (unretrievable uri) (bearer_under told docs uri) f

  lookup_reads : (base reference : List ℕ) → IfOk (lookup_under told docs base reference) (λ t. reads_as_path reference ≡ true)
  unfolding lookup_under
  lookup_reads base reference =
      let c = cut_at 35 reference in
      resolved_reads (invalid_uri c.0) (resolved base c.0) (or [] c.1)

pub lookups_read : LookupsRead
lookups_read docs base reference t e =
    of_ok (λ t. reads_as_path reference ≡ true) (lookup docs base reference) t (lookup_reads docs (meta docs) base reference) e
