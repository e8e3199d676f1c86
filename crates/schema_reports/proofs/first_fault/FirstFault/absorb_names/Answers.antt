use Rattle.std.proofs.Common.{sym, ap, subst, ◌∙◌, box_value}
use Rattle.serde_json.specs.View.{view}
use Rattle.schema_meaning.specs.Faults.{joined}
use Rattle.schema_meaning.specs.Rules.{of_object, each_of_object}
use Rattle.location_texts.specs.Locations.{location_of}
use Rattle.schema_reports.specs.Stands.{is_kept_of}
use Rattle.schema_reports.specs.Told.{fault_of, error_is_proper, spot_of}
use Rattle.schema_reports.proofs.FaultLemmas.{still_one, first_absorbed, Told-object}
use Rattle.schema_reports.proofs.first_fault.FirstFault.absorb_names.Goals as goal

pub returns-then-is_some : goal.returns-then-is_some
returns-then-is_some c = λ fs gs told heard.
    let w = spot_of (view c.args.object.now) (location_of c.args.at.now) in
    still_one c.args.self.now.error c.is_some.result c.is_some.ensures c.if-is_some.true fs (each_of_object w gs) told

pub returns-in_ok-keep : goal.returns-in_ok-keep
returns-in_ok-keep c = λ fs gs told heard.
    let w = spot_of (view c.args.object.now) (location_of c.args.at.now) in
    let one = subst (λ o. is_kept_of o gs) c.in-Some.is heard in
    let named = c.in_ok-told_of.ensures in
    c.in_ok-keep.ensures (joined fs (each_of_object w gs))
    (first_absorbed c.args.self.now.error (sym c.is_some.ensures ∙ c.if-is_some.false) c.in_ok-told_of.field-0 (of_object w (fault_of (box_value c.in-Some.error)))
    (named.told ∙ ap (λ e. of_object w (fault_of e)) c.into_inner.ensures) (named.proper ∙ ap error_is_proper c.into_inner.ensures ∙ one.proper)
    fs (each_of_object w gs) told (Told-object w one.told))
