use Rattle.std.proofs.Common.{◌≡◌, ◌∙◌, ◌<◌, ◌≤◌, ap, refl, inl, inr, arith, length}
use Rattle.std.proofs.lemmas.Result.{err_from_is_err_and}
use Rattle.reached_sites.proofs.Filing.{keys-apart}
use Rattle.reached_sites.proofs.Filling.{same-front, further-front}
use Rattle.compiled_graphs.proofs.Ending.{keys-exceed}
use Rattle.compiled_graphs.proofs.Running.{none-wrong, still-none, stops-there, first-there, few-where, few-at-end, front-length}
use Rattle.compiled_graphs.proofs.walk.Walk.run.Goals as goal

pub loop-alloc-init : goal.loop-alloc-init
loop-alloc-init g c =
    let vs = c.args.self.visits.list.items in
    let none : length c.args.self.nodes.items ≡ 0 = ap length c.requires.begun in
    record {
      further = same-front vs vs refl;
      walks = λ own roots placed w. (w, none-wrong c.args.at_cause c.args.self.wrong.items c.requires.right);
      ordered = λ own roots placed w h. h;
      few = few-where (length vs) (length c.args.self.nodes.items) c.args.limit (omega (arith, none));
      within = omega (arith, none);
    }

pub returns-then-len-limit-clause-refused : goal.returns-then-len-limit-clause-refused
returns-then-len-limit-clause-refused g c = λ own roots placed w.
    let now = c.loop-alloc.self in
    let known = (c.loop-alloc.invariant.walks own roots placed w).0 in
    let makes = (g.P.PatternMaker.patterns c.args.maker.now).makes in
    let count = c.len-in-loop-alloc-2.ensures ∙ now.visits.list.ok.0 in
    let more : c.args.limit < length now.visits.list.items = omega (arith, c.if-len-limit.true, count) in
    inl (record { named = refl; exceeds = keys-exceed own makes roots now.visits.list.items now.edges.items now.wrong.items (length now.nodes.items) known.graph (keys-apart now.visits) c.args.limit more })

pub returns-then-len-limit-clause-first : goal.returns-then-len-limit-clause-first
returns-then-len-limit-clause-first g c = λ own roots placed w h.
    let now = c.loop-alloc.self in
    let known = (c.loop-alloc.invariant.walks own roots placed w).0 in
    let makes = (g.P.PatternMaker.patterns c.args.maker.now).makes in
    let count = c.len-in-loop-alloc-2.ensures ∙ now.visits.list.ok.0 in
    let more : c.args.limit < length now.visits.list.items = omega (arith, c.if-len-limit.true, count) in
    inl (record { named = refl; exceeds = keys-exceed own makes roots now.visits.list.items now.edges.items now.wrong.items (length now.nodes.items) known.graph (keys-apart now.visits) c.args.limit more })

pub loop-alloc-preserved : goal.loop-alloc-preserved
loop-alloc-preserved g c =
    let now = c.loop-alloc.self in
    let next = c.fill.new.self in
    let known = c.loop-alloc.invariant in
    let filled = c.in_ok-cause.ensures in
    let nodes = c.len.ensures ∙ now.nodes.ok.0 in
    let visits = c.len-in-loop-alloc.ensures ∙ now.visits.list.ok.0 in
    let again = c.len-in-loop-alloc-2.ensures ∙ now.visits.list.ok.0 in
    let one = filled.one in
    let before : length now.nodes.items < length now.visits.list.items = omega (arith, c.loop-alloc-test.true, nodes, visits) in
    let few : length now.visits.list.items ≤ c.args.limit = omega (arith, c.if-len-limit.false, again) in
    let longer = front-length now.visits.list.items next.visits.list.items filled.further in
    record {
      further = further-front known.further filled.further;
      walks = λ own roots placed w.
          let was = known.walks own roots placed w in
          let f = filled.fills own roots placed in
          (f.walks was.0, still-none c.args.at_cause now.wrong.items next.wrong.items c.in_ok-cause.cause c.in_ok-stopped.ensures.goes f.right was.1);
      ordered = λ own roots placed w h. (filled.fills own roots placed).orders (known.walks own roots placed w).0 (known.ordered own roots placed w h);
      few = few-where (length next.visits.list.items) (length next.nodes.items) c.args.limit (omega (arith, one, before, few));
      within = omega (arith, one, before, longer);
    }

pub returns-in_err-stopped-clause-refused : goal.returns-in_err-stopped-clause-refused
returns-in_err-stopped-clause-refused g c =
    let makes = (g.P.PatternMaker.patterns c.args.maker.now).makes in
    let e = err_from_is_err_and c.from_residual-in_err-stopped.result c.from_residual-in_err-stopped.ensures.1 in
    rw (e.1, e.2) (λ own roots placed w.
    let was = (c.loop-alloc.invariant.walks own roots placed w).0 in
    inr (inl (stops-there c.args.at_cause c.in_ok-cause.cause _ makes own roots c.in_err-stopped.ensures.stops ((c.in_ok-cause.ensures.fills own roots placed).wrong was))))

pub returns-in_err-stopped-clause-first : goal.returns-in_err-stopped-clause-first
returns-in_err-stopped-clause-first g c =
    let makes = (g.P.PatternMaker.patterns c.args.maker.now).makes in
    let e = err_from_is_err_and c.from_residual-in_err-stopped.result c.from_residual-in_err-stopped.ensures.1 in
    rw (e.1, e.2) (λ own roots placed w h.
    let known = c.loop-alloc.invariant in
    let was = known.walks own roots placed w in
    inr (inr (first-there c.args.at_cause c.in_ok-cause.cause _ makes own roots c.loop-alloc.self.wrong.items c.in_err-stopped.ensures.stops was.1
    (λ none. (c.in_ok-cause.ensures.fills own roots placed).first was.0 (known.ordered own roots placed w h) none))))

pub returns-clause-walked : goal.returns-clause-walked
returns-clause-walked g c = λ own roots placed w.
    let now = c.loop-alloc.self in
    let known = c.loop-alloc.invariant in
    let both = known.walks own roots placed w in
    let nodes = c.len.ensures ∙ now.nodes.ok.0 in
    let visits = c.len-in-loop-alloc.ensures ∙ now.visits.list.ok.0 in
    let all : length now.visits.list.items ≤ length now.nodes.items = omega (arith, c.loop-alloc-test.false, nodes, visits) in
    record { walks = both.0; all = all; few = few-at-end (length now.visits.list.items) (length now.nodes.items) c.args.limit known.few all; right = both.1 }

pub returns-clause-further : goal.returns-clause-further
returns-clause-further g c = c.loop-alloc.invariant.further
