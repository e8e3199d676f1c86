use Rattle.std.proofs.Common.{◌∙◌, sym, subst, ap, map, option_map, is_some}
use Rattle.schema_definitions.specs.Bearers.{bearer_under}
use Rattle.schema_dialects.specs.Dialects.{dialects_in}
use Rattle.document_index.specs.Seen.{document_of}
use Rattle.document_index.specs.Located.{located_standings}
use Rattle.document_index.specs.Indexes.{Indexes, bearer_of}
use Rattle.document_index.specs.Answers.{IsAnswer}
use Rattle.document_index.proofs.CauseNames.{is_some-map}
use Rattle.referencing.specs.Seen.{documents_of}
use Rattle.referencing.proofs.KeptLemmas.{some-answered}
use Rattle.referencing.proofs.ToldLemmas.{told-bearer}
use Rattle.referencing.proofs.registry.Registry.contains_resource.Goals as goal

pub bearer-requires : goal.bearer-requires
bearer-requires c =
    let registry = c.args.self.now in
    let known = dialects_in registry.known in
    (known, subst (λ ds. Indexes registry.index (located_standings known (map document_of ds))) (sym c.deref.ensures.value) registry.stands.indexed)

pub returns : goal.returns
returns c =
    let registry = c.args.self.now in
    let known = dialects_in registry.known in
    let documents = documents_of registry in
    let uri = c.args.uri.now in
    let kept = option_map (λ r. bearer_of r.1.now) c.bearer.result in
    let answer = subst (λ ds. Indexes registry.index (located_standings known (map document_of ds)) → IsAnswer known (map document_of ds) kept (bearer_under known (map document_of ds) uri)) c.deref.ensures.value (c.bearer.ensures.answer known) registry.stands.indexed in
    c.is_some.ensures
    ∙ sym (is_some-map (λ r. bearer_of r.1.now) c.bearer.result)
    ∙ some-answered known documents kept _ answer
    ∙ ap is_some (told-bearer registry.known documents registry.stands.told uri)
