use Rattle.std.proofs.Common.{◌∙◌, refl, subst, sym}
use Rattle.serde_json.specs.View.{view}
use Rattle.schema_meaning.specs.Rules.{each_of_object}
use Rattle.location_texts.specs.Locations.{location_of}
use Rattle.std.proofs.lemmas.List.{map-id}
use Rattle.std.proofs.lemmas.Iterator.Adapters.{YieldsList-from_vec}
use Rattle.std.proofs.lemmas.Iterator.Consumers.{YieldsList-end}
use Rattle.schema_reports.specs.Told.{AreAll, spot_of}
use Rattle.schema_reports.proofs.FaultLemmas.{all_named, none_absorbed}
use Rattle.schema_reports.proofs.all_faults.AllFaults.absorb_names.Goals as goal

pub loop-error-init : goal.loop-error-init
loop-error-init c = none_absorbed (each_of_object (spot_of (view c.args.object.now) (location_of c.args.at.now))) refl c.args.self.now.errors.items

pub loop-error-preserved : goal.loop-error-preserved
loop-error-preserved c =
    all_named (spot_of (view c.args.object.now) (location_of c.args.at.now)) c.loop-error.self.errors.items c.push.new.self.items
    c.in-Some.error c.in_ok-told_of.field-0 c.in_ok-push.ensures.items c.in_ok-told_of.ensures.told c.in_ok-told_of.ensures.proper
    c.args.self.now.errors.items c.loop-error.yielded c.loop-error.invariant

pub returns : goal.returns
returns c = λ fs gs told heard.
    let gives = c.into_iter-error-iterator.ensures.into_iter_gives in
    let list = YieldsList-from_vec c.args.heard.items gives.0 (gives.1 ∙ c.args.heard.ok.0) in
    let end = YieldsList-end list c.loop-error.yielded _ c.loop-error.yielded_by _ c.next.new.self c.in-None.is c.next.ensures.steps in
    let all = sym (map-id c.loop-error.yielded) ∙ end.0 in
    c.loop-error.invariant fs gs told (subst (λ es. AreAll es gs) (sym all) heard)
