use Rattle.std.proofs.Common.{codes, subst}
use Rattle.schema_definitions.specs.Words.{text_at}
use Rattle.schema_definitions.specs.Identifiers.{identifier_text}
use Rattle.schema_definitions.specs.DocumentCauses.{unless_reference}
use Rattle.document_index.specs.Seen.{standing_of}
use Rattle.document_index.specs.Checked.{of_text, wanted_at}
use Rattle.document_index.specs.Named.{NamesOne}
use Rattle.document_index.specs.Checked.{borne_in}
use Rattle.document_index.proofs.CauseNames.{kept, named-before}
use Rattle.document_index.proofs.causes.check_settled.Goals as goal

pub returns-in_err-check_text-clause-refused : goal.returns-in_err-check_text-clause-refused
returns-in_err-check_text-clause-refused c =
    let s = standing_of c.args.standing.now in
    let identifier = of_text unless_reference (identifier_text s.place.dialect s.place.contents) in
    let reference = of_text (wanted_at (borne_in c.args.index.now) s.place.base) (text_at (codes "$ref") s.place.contents) in
    let e = c.in_err-check_text.field-0.0 in
    kept c.from_residual.result e _ c.from_residual.ensures.1 (named-before identifier reference e (subst (λ o. NamesOne (of_text unless_reference o) e) c.identifier_text.ensures c.in_err-check_text.ensures.refused))
