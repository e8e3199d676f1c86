use Rattle.std.proofs.Common.{◌≡◌, ◌∙◌, ◌++◌, map, ap, ap₂}
use Rattle.std.proofs.lemmas.List.{map-append}
use Rattle.schema_definitions.specs.Bearers.{Layer}
use Rattle.document_index.specs.Seen.{document_of}
use Rattle.document_sources.specs.Given.{documents_by}
use Rattle.document_laws.specs.TargetLaws.{are_apart}
use Rattle.document_retrieval.specs.Layers.{layer_above}
use Rattle.document_retrieval.proofs.Apart.{apart-beside}
use Rattle.referencing.specs.Seen.{documents_of}
use Rattle.schema_registries.specs.Seen.{documents_given, documents_shared}
use Rattle.schema_registries.specs.Retrieval.{beside}
use Rattle.schema_registries.proofs.registry.SharedRegistry.prepare_beside.Goals as goal

pub gathered-requires : goal.gathered-requires
gathered-requires g c =
    let registry = c.args.self.now in
    let others = documents_shared registry in
    let given = documents_given c.args.documents.now in
    let layer : Layer = record { number = c.in_ok-layer_above.field-0; draft = c.args.draft; siblings = c.reads_ref_siblings.result } in
    let above : layer.number ≡ layer_above others = c.in_ok-layer_above.ensures.ok ∙ ap layer_above (c.documents.ensures ∙ ap documents_of c.deref.ensures) in
    let below : map document_of c.in_ok-all.all.items ≡ others = c.in_ok-all.ensures ∙ c.documents-3.ensures ∙ ap documents_of c.deref-2.ensures in
    let own : map document_of c.in_ok-own.own.items ≡ documents_by layer given = c.in_ok-own.ensures ∙ ap (documents_by layer) (c.documents-2.ensures ∙ c.list.ensures) in
    let both : map document_of c.append.new.self.items ≡ beside others layer given =
    ap (map document_of) c.in_ok-append.ensures.items
    ∙ map-append document_of c.in_ok-all.all.items c.in_ok-own.own.items
    ∙ ap₂ (λ xs ys. xs ++ ys) below own in
    record { apart = ap are_apart both ∙ apart-beside layer others given above registry.apart c.uris_are_apart.ensures }
