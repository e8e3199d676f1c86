use Rattle.std.proofs.Common.{◌≡◌, ◌≤◌, ◌∙◌, ◌+◌, length, ap, sym, subst, refl, arith}
use Rattle.answer_checks.proofs.Pairing.{PairedSoFar, paired_all, paired_more, paired_past, some_item}
use Rattle.answer_checks.proofs.given.pairs_of.Goals.{in-Some+in_ok-push, in_default}
use Rattle.answer_checks.proofs.given.pairs_of.Goals as goal

pub loop-text-preserved : goal.loop-text-preserved
loop-text-preserved c =
    let texts = c.args.texts.now in
    let lines = c.args.lines.now in
    let i = c.loop-text.text-index in
    let pairs = c.loop-text.pairs.items in
    let so_far = c.loop-text.invariant in
    let within = c.loop-text-test.true in
    let k = c.len.result in
    let counted : k ≡ length pairs = omega (arith, c.len.ensures, c.loop-text.pairs.ok) in
    elim c.match-get.branch [
      | in-Some+in_ok-push w ↦ subst (PairedSoFar texts lines (i + 1)) (sym (ap (λ v. v.items) w.pairs-is ∙ w.in_ok-push.ensures.items))
          (paired_more texts lines i pairs so_far _ within k counted w.in-Some.line.now _ w.in-Some.ensures.lookup.3.0 w.in-Some.ensures.lookup.1 refl)
      | in_default w ↦ subst (PairedSoFar texts lines (i + 1)) (sym (ap (λ v. v.items) w.pairs-is)) (paired_past texts lines i pairs so_far (some_item texts i within) within k counted w.in_default.ensures.lookup.3)
    ]

pub returns : goal.returns
returns c =
    let past : length c.args.texts.now ≤ c.loop-text.text-index = omega (arith, c.loop-text-test.false) in
    paired_all c.args.texts.now c.args.lines.now c.loop-text.text-index c.loop-text.pairs.items c.loop-text.invariant past
