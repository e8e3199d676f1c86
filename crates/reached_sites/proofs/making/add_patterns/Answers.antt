use Rattle.std.proofs.Common.{◌∙◌, ◌∷◌, [], ◌++◌, List, ℕ, refl, sym, ap, subst, take}
use Rattle.std.proofs.lemmas.List.{take_more}
use Rattle.std.proofs.lemmas.Result.{err_from_is_err_and}
use Rattle.schema_patterns.specs.Tables.{texts_of_table}
use Rattle.reached_sites.specs.Patterns.{texts_of, text_of, Holds}
use Rattle.reached_sites.proofs.Filling.{holds-itself, holds-none, holds-both, holds-one, holds-too, same-front, further-front}
use Rattle.reached_sites.proofs.Listing.{in-at}
use Rattle.reached_sites.proofs.Putting.{texts-behind, refuses-more, tells-more}
use Rattle.reached_sites.proofs.making.add_patterns.Goals as goal

pub loop-pattern-init : goal.loop-pattern-init
loop-pattern-init g c = record { filled = λ f. f; kept = holds-itself c.args.table.now; grows = same-front (texts_of_table c.args.table.now) _ refl; held = holds-none c.args.table.now }

pub returns-in_err-add_pattern-clause-refused : goal.returns-in_err-add_pattern-clause-refused
returns-in_err-add_pattern-clause-refused g c =
    let qs = c.args.patterns.now in
    let q = c.pattern-item.result in
    let p = err_from_is_err_and c.from_residual.result c.from_residual.ensures.1 in
    let listed = in-at qs c.loop-pattern.pattern-index q c.loop-pattern-test.true c.pattern-item.is in
    rw (p.1, p.2) (refuses-more (g.P.PatternMaker.patterns c.args.maker.now).makes q qs c.in_err-add_pattern.field-0.0 listed c.in_err-add_pattern.ensures.refused)

pub returns-in_err-add_pattern-clause-tells : goal.returns-in_err-add_pattern-clause-tells
returns-in_err-add_pattern-clause-tells g c =
    let qs = c.args.patterns.now in
    let q = c.pattern-item.result in
    let p = err_from_is_err_and c.from_residual.result c.from_residual.ensures.1 in
    let listed = in-at qs c.loop-pattern.pattern-index q c.loop-pattern-test.true c.pattern-item.is in
    rw (p.1, p.2) (tells-more q qs c.in_err-add_pattern.field-0.0 listed c.in_err-add_pattern.ensures.tells)

pub loop-pattern-preserved : goal.loop-pattern-preserved
loop-pattern-preserved g c =
    let qs = c.args.patterns.now in
    let q = c.pattern-item.result in
    let i = c.loop-pattern.pattern-index in
    let table = c.loop-pattern.table in
    let larger = c.add_pattern.new.table in
    let known = c.loop-pattern.invariant in
    let kept = c.in_ok-add_pattern.ensures.kept in
    let texts = ap texts_of (take_more qs i q c.loop-pattern-test.true ∙ ap (λ x. take i qs ++ x ∷ []) (sym c.pattern-item.is)) ∙ texts-behind (take i qs) (q ∷ []) in
    record {
      filled = λ f. c.in_ok-add_pattern.ensures.filled (known.filled f);
      kept = holds-too table larger (texts_of_table c.args.table.now) known.kept kept;
      grows = further-front known.grows c.in_ok-add_pattern.ensures.grows;
      held =
          subst (λ (ts : List (List ℕ)). Holds larger ts) (sym texts)
          (holds-both larger (texts_of (take i qs)) (text_of q ∷ []) (holds-too table larger (texts_of (take i qs)) known.held kept) (holds-one larger (text_of q) c.in_ok-add_pattern.ensures.held));
    }

pub returns-in_err-add_pattern-clause-kept : goal.returns-in_err-add_pattern-clause-kept
returns-in_err-add_pattern-clause-kept g c =
    holds-too c.loop-pattern.table c.add_pattern.new.table (texts_of_table c.args.table.now) c.loop-pattern.invariant.kept c.in_err-add_pattern.ensures.kept

pub returns-in_err-add_pattern-clause-grows : goal.returns-in_err-add_pattern-clause-grows
returns-in_err-add_pattern-clause-grows g c = further-front c.loop-pattern.invariant.grows c.in_err-add_pattern.ensures.grows
