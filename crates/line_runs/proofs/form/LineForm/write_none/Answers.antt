use Rattle.std.proofs.Common.{codes, refl, string_bytes}
use Rattle.error_texts.specs.Sentences.{reason_line}
use Rattle.line_runs.specs.Forms.{TellsNone}
use Rattle.line_runs.specs.declared.form.LineForm.TheVariants.{Pairs, Objects, Sentences}
use Rattle.line_runs.proofs.Telling.{told_on, pushed_on, in_form}
use Rattle.line_runs.proofs.form.LineForm.write_none.Goals as goal

pub returns-in-Pairs : goal.returns-in-Pairs
returns-in-Pairs c =
    in_form TellsNone _ Pairs c.push_str.result _ _ c.in-Pairs.is
    (pushed_on (TellsNone Pairs) (string_bytes c.args.text.now) _ c.push_str.result (codes "null") refl c.push_str.ensures.bytes)

pub returns-in_ok-reason-in-Objects : goal.returns-in_ok-reason-in-Objects
returns-in_ok-reason-in-Objects c =
    let reason = c.as_str.result.now in
    in_form TellsNone _ Objects c.write_unread.result _ _ c.in-Objects.is
    (told_on (TellsNone Objects) (string_bytes c.args.text.now) _ c.write_unread.result _ (reason, _, refl) c.write_unread.ensures.written)

pub returns-in_ok-reason-in-Sentences : goal.returns-in_ok-reason-in-Sentences
returns-in_ok-reason-in-Sentences c =
    let label = c.args.label.now in
    let reason = c.as_str-in-Sentences.result.now in
    in_form TellsNone _ Sentences c.write_reason.result _ _ c.in-Sentences.is
    (told_on (TellsNone Sentences) (string_bytes c.args.text.now) _ c.write_reason.result (reason_line label reason) (label, reason, refl) c.write_reason.ensures)
