use Rattle.std.proofs.Common.{sym, subst, ◌∙◌}
use Rattle.std.specs.List.{AllZip}
use Rattle.std.specs.Vec.Iter.{into_iter_items}
use Rattle.document_index.proofs.LocatedLemmas.{no_items}
use Rattle.compiled_graphs.specs.Linked.{Links, StandsFor}
use Rattle.compiled_graphs.proofs.Edges.{linking-begins, linking-goes, linking-ends}
use Rattle.compiled_graphs.proofs.linking.link.Goals as goal

pub loop-lead-init : goal.loop-lead-init
loop-lead-init c =
    linking-begins c.args.from c.args.visits.now.list.items (into_iter_items c.into_iter-lead-iterator.result) c.args.edges.now.items c.in_ok-numbers.numbers.items c.in_ok-numbers.ensures.items

pub loop-lead-preserved : goal.loop-lead-preserved
loop-lead-preserved c =
    linking-goes c.args.from c.args.visits.now.list.items c.loop-lead.visits.list.items c.put.new.self.list.items
    (into_iter_items c.into_iter-lead-iterator.result) (into_iter_items c.loop-lead.lead-iterator) (into_iter_items c.next.new.self) c.in-Some.lead c.args.edges.now.items c.loop-lead.edges.items c.push.new.self.items
    c.in_ok-to.to c.loop-lead.numbers.items c.push-in-loop-lead.new.self.items c.loop-lead.invariant c.in-Some.ensures.steps.0 c.in_ok-to.ensures.grows c.in_ok-to.ensures.stands c.in_ok-push.ensures.items c.in_ok-push-2.ensures.items

pub returns-clause-links : goal.returns-clause-links
returns-clause-links c =
    let it = c.loop-lead.lead-iterator in
    let empty = no_items it.rest.items (sym it.rest.ok.0 ∙ c.in-None.ensures.steps.0) in
    subst (λ ls. Links c.args.from c.args.visits.now.list.items c.loop-lead.visits.list.items ls c.args.edges.now.items c.loop-lead.edges.items) c.into_iter-lead-iterator.ensures.into_iter_gives.0
    (linking-ends c.args.from c.args.visits.now.list.items c.loop-lead.visits.list.items (into_iter_items c.into_iter-lead-iterator.result) (into_iter_items it) c.args.edges.now.items
    c.loop-lead.edges.items c.loop-lead.numbers.items c.loop-lead.invariant empty).0

pub returns-clause-stand : goal.returns-clause-stand
returns-clause-stand c =
    let it = c.loop-lead.lead-iterator in
    let empty = no_items it.rest.items (sym it.rest.ok.0 ∙ c.in-None.ensures.steps.0) in
    subst (λ ls. AllZip (StandsFor c.args.from c.loop-lead.visits.list.items c.loop-lead.edges.items) ls c.loop-lead.numbers.items) c.into_iter-lead-iterator.ensures.into_iter_gives.0
    (linking-ends c.args.from c.args.visits.now.list.items c.loop-lead.visits.list.items (into_iter_items c.into_iter-lead-iterator.result) (into_iter_items it) c.args.edges.now.items
    c.loop-lead.edges.items c.loop-lead.numbers.items c.loop-lead.invariant empty).1
