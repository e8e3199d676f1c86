use Rattle.std.proofs.Common.{◌≡◌, ◌∙◌, map, ap}
use Rattle.document_index.specs.Seen.{document_of}
use Rattle.document_sources.specs.Given.{documents_by}
use Rattle.document_laws.specs.TargetLaws.{are_apart}
use Rattle.document_retrieval.proofs.Apart.{apart-by}
use Rattle.referencing.specs.Built.{first_layer}
use Rattle.schema_registries.specs.Seen.{documents_given}
use Rattle.schema_registries.proofs.registry.SharedRegistry.prepare.Goals as goal

pub gathered-requires : goal.gathered-requires
gathered-requires g c =
    let layer = first_layer c.args.draft c.args.siblings in
    let given = documents_given c.args.documents.now in
    let same : map document_of c.in_ok-shared.shared.items ≡ documents_by layer given =
    c.in_ok-shared.ensures ∙ ap (documents_by layer) (c.documents.ensures ∙ c.list.ensures) in
    record { apart = ap are_apart same ∙ apart-by layer given ∙ c.uris_are_apart.ensures }
