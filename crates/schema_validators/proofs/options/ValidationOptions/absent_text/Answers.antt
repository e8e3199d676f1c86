use Rattle.std.proofs.Common.{sym, subst}
use Rattle.std.specs.List.{AllZip}
use Rattle.schema_registries.specs.Seen.{documents_given}
use Rattle.schema_validators.specs.Absent.{NamesAbsent, absent_given}
use Rattle.schema_validators.specs.Prepared.{layer_by, meta_schemas_given}
use Rattle.schema_validators.proofs.RefusedTextLemmas.{absent-found}
use Rattle.schema_validators.proofs.options.ValidationOptions.absent_text.Goals as goal

pub returns : goal.returns
returns g c =
    let o = c.args.self.now in
    let absent = absent_given (meta_schemas_given o) (layer_by o) (documents_given c.args.documents.now) in
    absent-found c.args.error.now absent c.as_slice.result.now
    (subst (AllZip NamesAbsent absent) (sym c.as_slice.ensures.value) c.in_ok-causes.ensures.listed) c.text_among.result c.text_among.ensures
