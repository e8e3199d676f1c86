use Rattle.std.proofs.Common.{◌≡◌, ◌∙◌, ℕ, List, Option, ap, length, map, string_bytes, sym, subst}
use Rattle.std.specs.List.{All}
use Rattle.std.proofs.lemmas.List.{length-map}
use Rattle.compiled_graphs.specs.Marked.{IsNode}
use Rattle.schema_registries.specs.Pointers.{reference_to}
use Rattle.schema_registries.specs.Seen.{documents_shared}
use Rattle.schema_validators.specs.Meant.{IsOfSome}
use Rattle.schema_validators.proofs.Entries.{uri-of, is-map, pointers-there, built-there, refused-there, entered-there, starts-of, starts-of-some, zip-length}
use Rattle.schema_validators.proofs.mapping.map_of.Goals as goal

pub returns-in-Err-clause-refused : goal.returns-in-Err-clause-refused
returns-in-Err-clause-refused g c = λ d at.
    let p = g.P.PatternMaker.patterns c.args.maker.now in
    let own = documents_shared c.args.registry.now in
    let document = c.args.document.now in
    let ks = map string_bytes c.in_ok-pointers.pointers.items in
    let texts : map string_bytes c.as_slice-2.result.now ≡ map reference_to ks =
    ap (map string_bytes) c.as_slice-2.ensures.value ∙ c.in_ok-references.ensures ∙ ap (λ x. map reference_to (map string_bytes x)) c.as_slice.ensures.value in
    refused-there p own _ document _ ks c.args.node_limit d c.in-Err.cause c.of_places.result c.registry-places.ensures.documents texts
    (pointers-there own _ document ks c.registry.ensures.documents c.in_ok-pointers.ensures.pointers d at) (uri-of own document d at) c.of_places.ensures c.in-Err.ensures.refused

pub validators_at-requires-clause-long : goal.validators_at-requires-clause-long
validators_at-requires-clause-long g c =
    let p = g.P.PatternMaker.patterns c.args.maker.now in
    let own = documents_shared c.args.registry.now in
    let document = c.args.document.now in
    let ps = c.in_ok-pointers.pointers.items in
    let ks = map string_bytes ps in
    let schemas = c.in-Ok.built.schemas in
    let starts = c.in-Ok.built.starts.items in
    let texts : map string_bytes c.as_slice-2.result.now ≡ map reference_to ks =
    ap (map string_bytes) c.as_slice-2.ensures.value ∙ c.in_ok-references.ensures ∙ ap (λ x. map reference_to (map string_bytes x)) c.as_slice.ensures.value in
    let built = built-there g.P.Matcher.PatternMatcher.finds p own _ document _ ks c.args.node_limit schemas.graph.nodes.items schemas.table starts c.registry-places.ensures.documents texts c.in-Ok.ensures.built in
    let same = zip-length _ ks starts (starts-of p own document schemas ks starts built.decided built.compiled) in
    ap length c.as_slice-4.ensures.value ∙ sym same ∙ length-map ps string_bytes ∙ sym (ap length c.as_slice-3.ensures.value)

pub validators_at-requires-clause-there : goal.validators_at-requires-clause-there
validators_at-requires-clause-there g c =
    subst (λ (os : List (Option ℕ)). All (IsNode (length c.in-Ok.built.schemas.graph.nodes.items)) os) (sym c.as_slice-4.ensures.value) c.in-Ok.built.there

pub validators_at-requires-clause-of_some : goal.validators_at-requires-clause-of_some
validators_at-requires-clause-of_some g c =
    let p = g.P.PatternMaker.patterns c.args.maker.now in
    let own = documents_shared c.args.registry.now in
    let document = c.args.document.now in
    let ps = c.in_ok-pointers.pointers.items in
    let ks = map string_bytes ps in
    let schemas = c.in-Ok.built.schemas in
    let starts = c.in-Ok.built.starts.items in
    let texts : map string_bytes c.as_slice-2.result.now ≡ map reference_to ks =
    ap (map string_bytes) c.as_slice-2.ensures.value ∙ c.in_ok-references.ensures ∙ ap (λ x. map reference_to (map string_bytes x)) c.as_slice.ensures.value in
    let built = built-there g.P.Matcher.PatternMatcher.finds p own _ document _ ks c.args.node_limit schemas.graph.nodes.items schemas.table starts c.registry-places.ensures.documents texts c.in-Ok.ensures.built in
    subst (λ (os : List (Option ℕ)). All (IsOfSome schemas.graph.nodes.items) os) (sym c.as_slice-4.ensures.value)
    (starts-of-some own document schemas p ks starts (starts-of p own document schemas ks starts built.decided built.compiled))

pub returns-clause-built : goal.returns-clause-built
returns-clause-built g c = λ d at.
    let p = g.P.PatternMaker.patterns c.args.maker.now in
    let own = documents_shared c.args.registry.now in
    let document = c.args.document.now in
    let ps = c.in_ok-pointers.pointers.items in
    let ks = map string_bytes ps in
    let schemas = c.in-Ok.built.schemas in
    let starts = c.in-Ok.built.starts.items in
    let texts : map string_bytes c.as_slice-2.result.now ≡ map reference_to ks =
    ap (map string_bytes) c.as_slice-2.ensures.value ∙ c.in_ok-references.ensures ∙ ap (λ x. map reference_to (map string_bytes x)) c.as_slice.ensures.value in
    let built = built-there g.P.Matcher.PatternMatcher.finds p own _ document _ ks c.args.node_limit schemas.graph.nodes.items schemas.table starts c.registry-places.ensures.documents texts c.in-Ok.ensures.built in
    is-map p own document ks c.args.node_limit schemas starts c.in_ok-map.map built
    (entered-there own document schemas ps _ starts _ c.in_ok-map.map c.as_slice-3.ensures.value c.as_slice-4.ensures.value c.in_ok-map.ensures)
    d (uri-of own document d at) (pointers-there own _ document ks c.registry.ensures.documents c.in_ok-pointers.ensures.pointers d at)
