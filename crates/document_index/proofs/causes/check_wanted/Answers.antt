use Rattle.std.proofs.Common.{◌∙◌, sym, ap, subst}
use Rattle.schema_definitions.specs.DocumentCauses.{no_reference}
use Rattle.document_index.specs.Checked.{wanted_from}
use Rattle.document_index.specs.Named.{NamesOne}
use Rattle.document_index.specs.Checked.{borne_in}
use Rattle.document_index.proofs.CauseNames.{named-one}
use Rattle.document_index.proofs.causes.check_wanted.Goals as goal

pub returns-in-None-clause-refused : goal.returns-in-None-clause-refused
returns-in-None-clause-refused c =
    let t = c.args.text.now in
    let nowhere = sym c.in_ok-resolved.ensures ∙ c.in-None.is in
    subst (λ cs. NamesOne cs c.invalid_uri.result) (sym (ap (wanted_from (borne_in c.args.index.now) t) nowhere)) (named-one (no_reference t) c.invalid_uri.result c.invalid_uri.ensures.document)
