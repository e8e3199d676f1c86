use Rattle.std.proofs.Common.{◌≡◌, ◌∙◌, ap, sym, subst, map, Some, None, slice_get, option_map, reverse}
use Rattle.serde_json.specs.View.{view}
use Rattle.json_values.specs.Pointers.{value_at}
use Rattle.schema_definitions.specs.Bearers.{Standing, bearer_under}
use Rattle.schema_dialects.specs.Dialects.{dialects_in}
use Rattle.document_index.specs.Seen.{document_of}
use Rattle.document_index.specs.Located.{located_standings}
use Rattle.document_index.specs.Indexes.{Indexes, bearer_of}
use Rattle.document_index.specs.Answers.{IsAnswer}
use Rattle.referencing.specs.Seen.{documents_of}
use Rattle.referencing.proofs.KeptLemmas.{kept-same, none-answered, contents-again, got-mapped}
use Rattle.referencing.proofs.ToldLemmas.{told-bearer}
use Rattle.referencing.proofs.registry.Registry.contents_of.Goals as goal

pub bearer-requires : goal.bearer-requires
bearer-requires c =
    let registry = c.args.self.now in
    let known = dialects_in registry.known in
    (known, subst (λ ds. Indexes registry.index (located_standings known (map document_of ds))) (sym c.deref.ensures.value) registry.stands.indexed)

pub returns-in_err-document : goal.returns-in_err-document
returns-in_err-document c =
    let registry = c.args.self.now in
    let known = dialects_in registry.known in
    let documents = documents_of registry in
    let uri = c.args.uri.now in
    let answer = subst (λ ds. Indexes registry.index (located_standings known (map document_of ds)) → IsAnswer known (map document_of ds) None (bearer_under known (map document_of ds) uri)) c.deref.ensures.value (c.in_err-document.ensures.answer known) registry.stands.indexed in
    let nobody = sym (told-bearer registry.known documents registry.stands.told uri) ∙ none-answered known documents _ answer in
    ap (option_map (λ v. view v.now)) c.from_residual.ensures ∙ sym (ap (option_map (λ (s : Standing). s.place.contents)) nobody)

pub returns : goal.returns
returns c =
    let registry = c.args.self.now in
    let known = dialects_in registry.known in
    let documents = documents_of registry in
    let uri = c.args.uri.now in
    let d = c.in_ok-document.document.now in
    let b = c.in_ok-document.bearer.now in
    let k = bearer_of b in
    let answer = subst (λ ds. Indexes registry.index (located_standings known (map document_of ds)) → IsAnswer known (map document_of ds) (Some k) (bearer_under known (map document_of ds) uri)) c.deref.ensures.value (c.in_ok-document.ensures.answer known) registry.stands.indexed in
    let there = got-mapped document_of registry.documents.items b.document d (subst (λ ds. slice_get ds b.document ≡ Some d) c.deref.ensures.value c.in_ok-document.ensures.document) in
    let same = kept-same known documents k _ (document_of d) answer there registry.stands.rising in
    c.find_in.ensures
    ∙ ap (value_at (reverse b.path)) c.value.ensures
    ∙ sym (contents-again (document_of d) k (value_at (reverse b.path) (document_of d).contents))
    ∙ ap (option_map (λ (s : Standing). s.place.contents)) (same ∙ told-bearer registry.known documents registry.stands.told uri)
