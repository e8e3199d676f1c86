use Rattle.std.proofs.Common.{sym, ap, ◌∙◌}
use Rattle.schema_reports.specs.Told.{fault_of}
use Rattle.error_kinds.specs.Faults.{same_fault}
use Rattle.error_kinds.proofs.FaultLaws.{fault_sound, fault_itself}
use Rattle.error_kinds.proofs.errors.is_same.Goals as goal

pub returns-clause-same : goal.returns-clause-same
returns-clause-same c h = fault_sound (fault_of c.args.one.now) (fault_of c.args.other.now) (sym c.same_error.ensures ∙ h)

pub returns-clause-exact : goal.returns-clause-exact
returns-clause-exact c whole same =
    let f = fault_of c.args.one.now in
    c.same_error.ensures ∙ ap (same_fault f) (sym same) ∙ fault_itself f whole
