use Rattle.std.proofs.Common.{[], refl, sym, subst, length, take, get_or}
use Rattle.std.proofs.lemmas.List.{take_more, take_all}
use Rattle.std.proofs.lemmas.Option.{slice_get_read}
use Rattle.compiled_graphs.specs.Told.{TellsVisits}
use Rattle.compiled_graphs.proofs.Told.{visits-none, visits-more}
use Rattle.compiled_graphs.proofs.causes.causes_at.Goals as goal

pub loop-position-init : goal.loop-position-init
loop-position-init g c =
    let makes = (g.P.PatternMaker.patterns c.args.maker.now).makes in
    let vs = c.args.visits.now.list.items in
    record {
      filled = λ f. f;
      told = λ f. subst (λ l. TellsVisits makes vs [] l) (sym c.new-causes.ensures.items) (visits-none makes vs);
    }

pub loop-position-preserved : goal.loop-position-preserved
loop-position-preserved g c =
    let makes = (g.P.PatternMaker.patterns c.args.maker.now).makes in
    let vs = c.args.visits.now.list.items in
    let wrong = c.args.wrong.now in
    let i = c.loop-position.position-index in
    let position = get_or wrong i 0 in
    let v = c.index.result.now in
    let known = c.loop-position.invariant in
    let at = slice_get_read vs (length vs) position v refl (c.requires.inside i 0 c.loop-position-test.true) c.index.ensures in
    record {
      filled = λ f. c.in_ok-push_causes.ensures.filled (known.filled f);
      told = λ f. subst (λ ws. TellsVisits makes vs ws c.push_causes.new.causes.items) (sym (take_more wrong i 0 c.loop-position-test.true))
          (visits-more makes vs (take i wrong) position v at c.loop-position.causes.items c.push_causes.new.causes.items (known.told f) (c.in_ok-push_causes.ensures.tells (known.filled f)));
    }

pub returns : goal.returns
returns g c = λ f.
    let makes = (g.P.PatternMaker.patterns c.args.maker.now).makes in
    let vs = c.args.visits.now.list.items in
    let wrong = c.args.wrong.now in
    subst (λ ws. TellsVisits makes vs ws c.loop-position.causes.items) (take_all c.loop-position.position-index wrong c.loop-position-test.false) (c.loop-position.invariant.told f)
