use Rattle.std.proofs.Common.{◌≡◌, ◌∙◌, sym, ap, subst, Some, None, option_map, ◌⊎◌}
use Rattle.schema_definitions.specs.Words.{ok_or, and_then}
use Rattle.schema_definitions.specs.Identifiers.{resolved}
use Rattle.schema_definitions.specs.Bearers.{bearer}
use Rattle.schema_definitions.specs.Lookup.{invalid_uri, unretrievable}
use Rattle.document_index.specs.Seen.{standing_of}
use Rattle.document_sources.specs.Causes.{IsMemory, NamesLookup}
use Rattle.referencing.specs.Found.{bearer_at, bearer_wanted}
use Rattle.referencing.specs.Seen.{documents_of}
use Rattle.referencing.proofs.RefusedLemmas.{refused-one}
use Rattle.referencing.proofs.resolving.wanted.Goals as goal

pub returns-in_default-clause-refused : goal.returns-in_default-clause-refused
returns-in_default-clause-refused c =
    let documents = documents_of c.args.registry.now in
    let base = c.args.base.now in
    let text = c.args.text.now in
    let none : resolved base text ≡ None = sym c.in_ok-uri.ensures ∙ c.in_default.is in
    refused-one (bearer_wanted documents base text) (invalid_uri text) c.invalid_uri.result (ap (λ o. and_then (ok_or (invalid_uri text) o) (bearer_at documents)) none) c.invalid_uri.ensures.lookup

pub returns-clause-refused : goal.returns-clause-refused
returns-clause-refused c =
    let documents = documents_of c.args.registry.now in
    let base = c.args.base.now in
    let text = c.args.text.now in
    let uri = c.in-Some.uri in
    let some : resolved base text ≡ Some uri = sym c.in_ok-uri.ensures ∙ c.in-Some.is in
    let nobody : bearer documents uri ≡ None = ap (bearer documents) (sym c.as_str.ensures.value) ∙ sym c.in_ok-bearer.ensures ∙ ap (option_map standing_of) c.in-None.is in
    let e = c.not_borne.result in
    refused-one (bearer_wanted documents base text) (unretrievable uri) e
    (ap (λ o. and_then (ok_or (invalid_uri text) o) (bearer_at documents)) some ∙ ap (ok_or (unretrievable uri)) nobody)
    (subst (λ u. IsMemory e ⊎ NamesLookup (unretrievable u) e) c.as_str-in-None.ensures.value c.not_borne.ensures.lookup)
