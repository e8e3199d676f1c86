use Rattle.schema_reports.specs.Left.{errors_left}
use Rattle.schema_validators.proofs.Owning.{owned_on}
use Rattle.schema_validators.proofs.meta_faults.owned.Goals as goal

pub loop-error-preserved : goal.loop-error-preserved
loop-error-preserved c =
    owned_on c.loop-error.owned.items c.push.new.self.items (errors_left c.loop-error.error-iterator) (errors_left c.next.new.self) (errors_left c.into_iter-error-iterator.result) c.in-Some.error c.in_ok-to_owned.field-0
    c.in-Some.ensures.steps c.in_ok-push.ensures.items c.in_ok-to_owned.ensures.told c.in_ok-to_owned.ensures.proper c.loop-error.invariant
