use Rattle.std.proofs.Common.{◌≡◌, ◌∙◌, sym, subst, map, Some, None, slice_get}
use Rattle.schema_dialects.specs.Dialects.{dialects_in}
use Rattle.document_index.specs.Seen.{document_of}
use Rattle.document_index.specs.Located.{located_standings}
use Rattle.document_index.specs.Indexes.{Indexes, bearer_of}
use Rattle.document_index.specs.Answers.{IsAnswer, dynamically_anchored_under}
use Rattle.referencing.specs.Seen.{documents_of}
use Rattle.referencing.proofs.KeptLemmas.{kept-same, none-answered, got-mapped, if-ok}
use Rattle.referencing.proofs.ToldLemmas.{told-dynamic}
use Rattle.referencing.proofs.registry.Registry.dynamically_anchored.Goals as goal

pub dynamically_anchored-requires : goal.dynamically_anchored-requires
dynamically_anchored-requires c =
    let registry = c.args.self.now in
    let known = dialects_in registry.known in
    (known, subst (λ ds. Indexes registry.index (located_standings known (map document_of ds))) (sym c.deref.ensures.value) registry.stands.indexed)

pub returns-in-Some : goal.returns-in-Some
returns-in-Some c =
    let registry = c.args.self.now in
    let known = dialects_in registry.known in
    let documents = documents_of registry in
    let d = c.in-Some.document.now in
    let b = c.in-Some.bearer.now in
    let answer = subst (λ ds. Indexes registry.index (located_standings known (map document_of ds)) → IsAnswer known (map document_of ds) (Some (bearer_of b)) (dynamically_anchored_under known (map document_of ds) c.args.base.now c.args.name.now)) c.deref.ensures.value (c.in-Some.ensures.answer known) registry.stands.indexed in
    let there = got-mapped document_of registry.documents.items b.document d (subst (λ ds. slice_get ds b.document ≡ Some d) c.deref.ensures.value c.in-Some.ensures.document) in
    let same = kept-same known documents (bearer_of b) _ (document_of d) answer there registry.stands.rising in
    if-ok _ _ c.standing_at.result (λ s e. e ∙ same ∙ told-dynamic registry.known documents registry.stands.told c.args.base.now c.args.name.now) c.standing_at.ensures

pub returns-in-None : goal.returns-in-None
returns-in-None c =
    let registry = c.args.self.now in
    let known = dialects_in registry.known in
    let documents = documents_of registry in
    let answer = subst (λ ds. Indexes registry.index (located_standings known (map document_of ds)) → IsAnswer known (map document_of ds) None (dynamically_anchored_under known (map document_of ds) c.args.base.now c.args.name.now)) c.deref.ensures.value (c.in-None.ensures.answer known) registry.stands.indexed in
    sym (none-answered known documents _ answer) ∙ told-dynamic registry.known documents registry.stands.told c.args.base.now c.args.name.now
