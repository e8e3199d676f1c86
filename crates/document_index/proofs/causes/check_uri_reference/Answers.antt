use Rattle.std.proofs.Common.{◌∙◌, sym, ap, subst, [], ◌∷◌, if◌then◌else◌}
use Rattle.schema_definitions.specs.DocumentCauses.{no_reference}
use Rattle.document_index.specs.Named.{NamesOne}
use Rattle.document_index.proofs.CauseNames.{named-one}
use Rattle.document_index.proofs.causes.check_uri_reference.Goals as goal

pub returns-else-is_uri_reference-clause-refused : goal.returns-else-is_uri_reference-clause-refused
returns-else-is_uri_reference-clause-refused c =
    let t = c.args.text.now in
    let refused = sym c.is_uri_reference.ensures ∙ c.if-is_uri_reference.false in
    subst (λ cs. NamesOne cs c.invalid_uri.result) (sym (ap (λ b. if b then [] else no_reference t ∷ []) refused)) (named-one (no_reference t) c.invalid_uri.result c.invalid_uri.ensures.document)
