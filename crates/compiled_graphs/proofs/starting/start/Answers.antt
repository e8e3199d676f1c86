use Rattle.std.proofs.Common.{◌≡◌, ◌∙◌, ◌∷◌, ◌++◌, ◌+◌, [], sym, ap, subst, map, take, string_bytes}
use Rattle.std.proofs.lemmas.List.{take_more, take_all, map-append}
use Rattle.referencing.specs.Resolved.{base_of, documents_in}
use Rattle.compiled_graphs.specs.Starts.{sites_from, Start, StartsOne}
use Rattle.compiled_graphs.specs.Graphs.{IsGraph}
use Rattle.compiled_graphs.proofs.Begun.{Starting, starting-begins, starting-goes, begun-graph}
use Rattle.compiled_graphs.proofs.starting.start.Goals as goal

pub loop-reference-init : goal.loop-reference-init
loop-reference-init c = record {
  starting = starting-begins (documents_in c.args.resolver.now) (base_of c.args.resolver.now) c.new-visits.result.list.items c.new-starts.result.items c.new-visits.ensures c.new-starts.ensures.items;
}

pub loop-reference-preserved : goal.loop-reference-preserved
loop-reference-preserved c =
    let own = documents_in c.args.resolver.now in
    let base = base_of c.args.resolver.now in
    let refs = c.args.references.now in
    let i = c.loop-reference.reference-index in
    let r = c.reference-item.result in
    let known = c.loop-reference.invariant in
    let texts : map string_bytes (take (i + 1) refs) ≡ map string_bytes (take i refs) ++ string_bytes r ∷ [] =
    ap (map string_bytes) (take_more refs i r c.loop-reference-test.true ∙ ap (λ x. take i refs ++ x ∷ []) (sym c.reference-item.is)) ∙ map-append string_bytes (take i refs) (r ∷ []) in
    let one = starting-goes own base c.requires.apart c.requires.rise (map string_bytes (take i refs)) (string_bytes r) c.loop-reference.visits.list.items c.start_one.new.visits.list.items c.loop-reference.starts.items c.in_ok-position.position
    (subst (λ t. StartsOne own base t c.loop-reference.visits.list.items c.start_one.new.visits.list.items c.in_ok-position.position) c.as_str-text.ensures.value c.in_ok-position.ensures) known.starting in
    record {
      starting = subst (λ os. Starting own base (map string_bytes (take (i + 1) refs)) c.start_one.new.visits.list.items os) (sym c.in_ok-push.ensures.items)
          (subst (λ rs. Starting own base rs c.start_one.new.visits.list.items (c.loop-reference.starts.items ++ c.in_ok-position.position ∷ [])) (sym texts) one);
    }

pub returns-clause-starts : goal.returns-clause-starts
returns-clause-starts c =
    let refs = c.args.references.now in
    subst (λ rs. Start (documents_in c.args.resolver.now) (base_of c.args.resolver.now) c.loop-reference.visits.list.items (map string_bytes rs) c.loop-reference.starts.items)
    (take_all c.loop-reference.reference-index refs c.loop-reference-test.false) c.loop-reference.invariant.starting.starts

pub returns-clause-graph : goal.returns-clause-graph
returns-clause-graph c = λ makes.
    let own = documents_in c.args.resolver.now in
    let base = base_of c.args.resolver.now in
    let refs = c.args.references.now in
    let vs = c.loop-reference.visits.list.items in
    subst (λ rs. IsGraph own makes (sites_from own base (map string_bytes rs)) vs [] [] 0) (take_all c.loop-reference.reference-index refs c.loop-reference-test.false)
    (begun-graph own base makes (map string_bytes (take c.loop-reference.reference-index refs)) vs (c.loop-reference.invariant.starting.begun makes))
