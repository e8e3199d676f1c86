-- Where no place awaits a meta-schema, a lookup is the same whatever is told of them.
use Rattle.std.proofs.Common.{◌≡◌, ◌==◌, ℕ, List, [], ◌∷◌, Option, Some, None, Err, refl, ap, ap₂, ◌∙◌}
use Rattle.std.specs.Str.{is_utf8}
use Rattle.std.specs.Prelude.{IfSome, if◌then◌else◌}
use Rattle.percent_encoding.specs.Percent.{percent_decode}
use Rattle.uri_grammar.specs.Texts.{cut_at, has, pieces}
use Rattle.schema_definitions.specs.Words.{or, result_map, ok_or, and_then}
use Rattle.schema_definitions.specs.Identifiers.{resolved}
use Rattle.schema_definitions.specs.Places.{Dialect}
use Rattle.schema_definitions.specs.Bearers.{Documents, Standing, standings, bears, bearer_under}
use Rattle.schema_definitions.specs.Lookup.{LookupCause, Walk, at_place, unretrievable, invalid_uri, invalid_anchor, no_such_anchor, invalid_percent_encoding, behind_first, ended, target_of, by_pointer, by_anchor, by_fragment, lookup_under}
use Rattle.schema_dialects.specs.Unknown.{no_meta}
use Rattle.document_laws.specs.PlaceLaws.{NothingAwaits, LookupsAloneTell}
use Rattle.document_laws.proofs.Lists.{of_last}
use Rattle.document_laws.proofs.Alone.{all_known, documents_alone_tell}
use Rattle.document_laws.proofs.Lasting.{StandsKnown, all_stand_known}
use Rattle.document_laws.proofs.Walks.{same_walk}

module _ (docs : Documents) (awaits : NothingAwaits docs) (meta : List ℕ → Option Dialect) where
  same_pointer : (s : Standing) → StandsKnown s → (written decoded : List ℕ) → by_pointer meta s written decoded ≡ by_pointer no_meta s written decoded
  same_pointer s k written decoded =
      let from : Walk = record { path = s.place.path; contents = s.place.contents; last = s.place; within = at_place } in
      ap (λ r. if is_utf8 decoded then result_map (ended s) r else Err (invalid_percent_encoding written))
      (same_walk meta written (behind_first (pieces 47 decoded)) from (record { last = k.below; here = (refl, refl) }))

  same_anchor : (s : Standing) (k : List ℕ) → by_anchor meta docs s k ≡ by_anchor no_meta docs s k
  same_anchor s k =
      ap (λ o. if has 47 k then Err (invalid_anchor k) else result_map target_of (ok_or (no_such_anchor k) o))
      ((documents_alone_tell docs awaits meta).anchored s.place.base k)

  same_fragment : (s : Standing) → StandsKnown s → (f : List ℕ) → by_fragment meta docs s f ≡ by_fragment no_meta docs s f
  same_fragment s k [] = refl
  same_fragment s k (b ∷ f) =
      ap₂ (λ pointed anchored. if b == 47 then pointed else anchored) (same_pointer s k (b ∷ f) (percent_decode (b ∷ f))) (same_anchor s (b ∷ f))

  bearer_known : (uri : List ℕ) → IfSome (bearer_under no_meta docs uri) StandsKnown
  bearer_known uri = of_last StandsKnown (bears uri) (standings no_meta docs) (all_stand_known docs (all_known docs awaits))

  same_behind : (cause : LookupCause) (o : Option Standing) → IfSome o StandsKnown → (f : List ℕ)
      → and_then (ok_or cause o) (λ s. by_fragment meta docs s f) ≡ and_then (ok_or cause o) (λ s. by_fragment no_meta docs s f)
  same_behind cause None k f = refl
  same_behind cause (Some s) k f = same_fragment s k f

  same_uri : (uri f : List ℕ)
      → and_then (ok_or (unretrievable uri) (bearer_under meta docs uri)) (λ s. by_fragment meta docs s f)
      ≡ and_then (ok_or (unretrievable uri) (bearer_under no_meta docs uri)) (λ s. by_fragment no_meta docs s f)
  same_uri uri f =
      ap (λ o. and_then (ok_or (unretrievable uri) o) (λ s. by_fragment meta docs s f)) ((documents_alone_tell docs awaits meta).bearers uri)
      ∙ same_behind (unretrievable uri) (bearer_under no_meta docs uri) (bearer_known uri) f

  same_resolved : (cause : LookupCause) (o : Option (List ℕ)) (f : List ℕ)
      → and_then (ok_or cause o) (λ uri. and_then (ok_or (unretrievable uri) (bearer_under meta docs uri)) (λ s. by_fragment meta docs s f))
      ≡ and_then (ok_or cause o) (λ uri. and_then (ok_or (unretrievable uri) (bearer_under no_meta docs uri)) (λ s. by_fragment no_meta docs s f))
  same_resolved cause None f = refl
  same_resolved cause (Some uri) f = same_uri uri f

pub lookups_alone_tell : LookupsAloneTell
unfolding lookup_under
lookups_alone_tell docs awaits meta base reference =
    let c = cut_at 35 reference in
    same_resolved docs awaits meta (invalid_uri c.0) (resolved base c.0) (or [] c.1)
