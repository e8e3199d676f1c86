use Rattle.std.proofs.Common.{sym, ap, subst, ◌∙◌, box_value}
use Rattle.schema_meaning.specs.Faults.{joined}
use Rattle.schema_reports.specs.Stands.{is_kept_of}
use Rattle.schema_reports.specs.Told.{fault_of, error_is_proper}
use Rattle.schema_reports.proofs.FaultLemmas.{still_one, first_absorbed}
use Rattle.schema_reports.proofs.first_fault.FirstFault.absorb.Goals as goal

pub returns-then-is_some : goal.returns-then-is_some
returns-then-is_some c = λ fs gs told heard. still_one c.args.self.now.error c.is_some.result c.is_some.ensures c.if-is_some.true fs gs told

pub returns-in_ok-keep : goal.returns-in_ok-keep
returns-in_ok-keep c = λ fs gs told heard.
    let one = subst (λ o. is_kept_of o gs) c.in-Some.is heard in
    let owned = c.in_ok-to_owned.ensures in
    c.in_ok-keep.ensures (joined fs gs)
    (first_absorbed c.args.self.now.error (sym c.is_some.ensures ∙ c.if-is_some.false) c.in_ok-to_owned.field-0 (fault_of (box_value c.in-Some.error))
    (owned.told ∙ ap fault_of c.into_inner.ensures) (owned.proper ∙ ap error_is_proper c.into_inner.ensures ∙ one.proper) fs gs told one.told)
