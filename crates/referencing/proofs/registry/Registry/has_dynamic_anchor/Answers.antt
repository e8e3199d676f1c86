use Rattle.std.proofs.Common.{◌∙◌, sym, ap, option_map, is_some}
use Rattle.std.specs.Cmp.{first_so}
use Rattle.schema_definitions.specs.Identifiers.{dynamic_anchors}
use Rattle.schema_definitions.specs.Bearers.{bears_anchor}
use Rattle.schema_dialects.specs.Dialects.{dialects_in}
use Rattle.document_index.specs.Indexes.{bearer_of}
use Rattle.document_index.specs.Answers.{dynamically_anchored_under}
use Rattle.document_index.proofs.AnswerLemmas.{settled, answers}
use Rattle.document_index.proofs.CauseNames.{is_some-map}
use Rattle.referencing.specs.Seen.{documents_of}
use Rattle.referencing.proofs.KeptLemmas.{some-answered}
use Rattle.referencing.proofs.ToldLemmas.{told-dynamic}
use Rattle.referencing.proofs.registry.Registry.has_dynamic_anchor.Goals as goal

pub returns : goal.returns
returns c =
    let registry = c.args.self.now in
    let known = dialects_in registry.known in
    let own = documents_of registry in
    let base = c.args.base.now in
    let name = c.args.name.now in
    let kept = option_map (λ b. bearer_of b.now) c.dynamically_anchored.result in
    let answer = answers known (bears_anchor dynamic_anchors base name) own (λ s e. settled _ _ (first_so _ _ e)) kept
    (c.dynamically_anchored.ensures ∙ registry.stands.indexed.by_dynamic_anchor base name) in
    c.is_some.ensures
    ∙ sym (is_some-map (λ b. bearer_of b.now) c.dynamically_anchored.result)
    ∙ some-answered known own kept (dynamically_anchored_under known own base name) answer
    ∙ ap is_some (told-dynamic registry.known own registry.stands.told base name)
