use Rattle.std.proofs.Common.{[], ◌∙◌, append-nil, ap, subst, sym, string_bytes}
use Rattle.std.specs.List.{AllZip}
use Rattle.schema_reports.specs.Left.{errors_left}
use Rattle.error_texts.specs.Sentences.{IsSentence}
use Rattle.error_texts.proofs.Lines.{line_on}
use Rattle.error_texts.proofs.sentences.write_sentences.Goals as goal

pub loop-error-preserved : goal.loop-error-preserved
loop-error-preserved c =
    let (line, is, longer) = c.in_ok-write_owned.ensures in
    line_on c.args.label.now _ _ _ _ line (string_bytes c.args.text.now) _ _ c.in-Some.ensures.steps is longer c.loop-error.invariant

pub returns : goal.returns
returns c =
    let is_label = IsSentence c.args.label.now in
    let (lines, zipped, whole) = c.loop-error.invariant [] (subst (λ es. AllZip is_label es []) (sym c.in-None.ensures.steps.0) tt) in
    (lines, subst (λ es. AllZip is_label es lines) (ap errors_left c.into_iter-error-iterator.ensures.into_iter_gives) zipped, sym (append-nil (string_bytes c.loop-error.text)) ∙ whole)
