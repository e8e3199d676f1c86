use Rattle.std.proofs.Common.{sym, subst}
use Rattle.std.specs.List.{AllZip}
use Rattle.schema_registries.specs.Seen.{documents_given}
use Rattle.schema_validators.specs.Misnamed.{NamesMisnamed, misnamed_given}
use Rattle.schema_validators.specs.Prepared.{layer_by, meta_schemas_given}
use Rattle.schema_validators.proofs.RefusedTextLemmas.{misnamed-found}
use Rattle.schema_validators.proofs.options.ValidationOptions.misnamed_text.Goals as goal

pub returns : goal.returns
returns g c =
    let o = c.args.self.now in
    let misnamed = misnamed_given (meta_schemas_given o) (layer_by o) (documents_given c.args.documents.now) in
    misnamed-found c.args.error.now misnamed c.as_slice.result.now
    (subst (AllZip NamesMisnamed misnamed) (sym c.as_slice.ensures.value) c.in_ok-causes.ensures.listed) c.text_among.result c.text_among.ensures
