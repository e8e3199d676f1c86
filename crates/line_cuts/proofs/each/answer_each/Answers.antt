use Rattle.std.proofs.Common.{◌∙◌, ◌+◌, ◌∷◌, ap, sym, refl, drop}
use Rattle.std.proofs.lemmas.List.{drop_more}
use Rattle.line_cuts.specs.Cuts.{bytes_of}
use Rattle.line_cuts.proofs.Going.{any_err, goes_first, text_breaks, text_sent}
use Rattle.line_cuts.proofs.each.answer_each.Goals as goal

pub loop-text-init : goal.loop-text-init
loop-text-init g c = record {
  kept = c.requires.kept;
  goes = goes_first _ _ _ _ _ c.new-outbox.ensures.report;
  empty = c.new-outbox.ensures.text;
  quiet = refl;
}

pub returns-in_err-write_out-clause-breaks : goal.returns-in_err-write_out-clause-breaks
returns-in_err-write_out-clause-breaks g c =
    let i = c.loop-text.invariant in
    let i_now = c.loop-text.text-index in
    let later = drop (i_now + 1) c.args.texts.now in
    let next = ap bytes_of (drop_more c.args.texts.now i_now c.text-item.result c.loop-text-test.true ∙ ap (λ v. v ∷ later) (sym c.text-item.is)) ∙ ap (λ l. l ∷ bytes_of later) (sym c.as_slice.ensures.value) in
    any_err c.from_residual-in_err-write_out.result _
    (text_breaks _ _ (bytes_of c.args.texts.now) _ _ _ _ _ _ _ _ _ _ next i.goes i.empty c.in_ok-answer.ensures.ok _ c.in_err-write_out.ensures.begun)

pub loop-text-preserved : goal.loop-text-preserved
loop-text-preserved g c =
    let i = c.loop-text.invariant in
    let i_now = c.loop-text.text-index in
    let later = drop (i_now + 1) c.args.texts.now in
    let next = ap bytes_of (drop_more c.args.texts.now i_now c.text-item.result c.loop-text-test.true ∙ ap (λ v. v ∷ later) (sym c.text-item.is)) ∙ ap (λ l. l ∷ bytes_of later) (sym c.as_slice.ensures.value) in
    record {
      kept = c.in_ok-answer.ensures.kept;
      goes = text_sent _ _ (bytes_of c.args.texts.now) _ _ _ _ _ _ _ _ _ _ next i.goes i.empty c.in_ok-answer.ensures.ok _ _ c.in_ok-write_out.ensures.sent c.write_out.ensures.report;
      empty = c.in_ok-write_out.ensures.text;
      quiet = c.in_ok-write_out.ensures.quiet ∙ i.quiet;
    }
