use Rattle.std.proofs.Common.{◌∙◌, sym, subst}
use Rattle.std.proofs.lemmas.List.{map-id}
use Rattle.std.proofs.lemmas.Iterator.Adapters.{YieldsList-from_vec}
use Rattle.std.proofs.lemmas.Iterator.Consumers.{YieldsList-end}
use Rattle.location_texts.specs.Locations.{location_of}
use Rattle.schema_reports.proofs.PairLemmas.{ArePlaced, none_placed, one_placed, all_placed}
use Rattle.schema_reports.proofs.path_pairs.PathPairs.absorb_names.Goals as goal

pub loop-evaluation-init : goal.loop-evaluation-init
loop-evaluation-init c = none_placed (location_of c.args.at.now) c.args.self.now.pairs.items

pub loop-evaluation-preserved : goal.loop-evaluation-preserved
loop-evaluation-preserved c =
    one_placed (location_of c.args.at.now) c.loop-evaluation.self.pairs.items c.push.new.self.items
    c.in-Some.field-0-0 c.in_ok-location_text.field-0 c.in-Some.evaluation c.in_ok-push.ensures.items c.in_ok-location_text.ensures
    c.args.self.now.pairs.items c.loop-evaluation.yielded c.loop-evaluation.invariant

pub returns : goal.returns
returns c =
    let path = location_of c.args.at.now in
    let before = c.args.self.now.pairs.items in
    let gives = c.into_iter-evaluation-iterator.ensures.into_iter_gives in
    let list = YieldsList-from_vec c.args.heard.items gives.0 (gives.1 ∙ c.args.heard.ok.0) in
    let end = YieldsList-end list c.loop-evaluation.yielded _ c.loop-evaluation.yielded_by _ c.next.new.self c.in-None.is c.next.ensures.steps in
    let all = sym (map-id c.loop-evaluation.yielded) ∙ end.0 in
    λ object. all_placed object path before c.args.heard.items c.loop-evaluation.self.pairs.items
    (subst (λ ps. ArePlaced path before ps c.loop-evaluation.self.pairs.items) all c.loop-evaluation.invariant)
