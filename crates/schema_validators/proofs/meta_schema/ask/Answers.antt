use Rattle.std.proofs.Common.{◌≡◌, IfSome, ap, subst, true}
use Rattle.serde_json.specs.Data.{Data}
use Rattle.serde_json.specs.View.{view}
use Rattle.reached_sites.specs.Passed.{target_in}
use Rattle.schema_reports.specs.Told.{fault_of, error_is_proper}
use Rattle.schema_validators.specs.Calls.{IsFaultOf, IsVerdictOf}
use Rattle.schema_validators.proofs.Asking.{fault_refuses}
use Rattle.schema_validators.proofs.meta_schema.ask.Goals as goal

pub returns-in-None-clause-accepted : goal.returns-in-None-clause-accepted
returns-in-None-clause-accepted g c =
    subst (λ (d : Data). IsVerdictOf c.args.meta_schema.now d true) (ap (λ b. view b.now) c.contents.ensures)
    (c.in_ok-told_fault.ensures.accepted c.in-None.is)

pub returns-in-Some-clause-refused : goal.returns-in-Some-clause-refused
returns-in-Some-clause-refused g c = λ p r made.
    let v = c.args.meta_schema.now in
    let e = c.in-Some.fault in
    let told = subst (λ (d : Data). IsFaultOf v d (fault_of e)) (ap (λ b. view b.now) c.contents.ensures)
    (subst (λ f. IfSome f (λ x. IsFaultOf v (view c.contents.result.now) (fault_of x))) c.in-Some.is c.in_ok-told_fault.ensures.fault) in
    let proper = subst (λ f. IfSome f (λ x. error_is_proper x ≡ true)) c.in-Some.is c.in_ok-told_fault.ensures.proper in
    fault_refuses p r (target_in c.args.root.now).contents e made.sound (told p r made) proper c.refusal.result c.refusal.ensures.fault
