use Rattle.std.proofs.Common.{◌≡◌, ◌∙◌, ap, length, string_bytes, take, drop, ◌-◌, ◌||◌}
use Rattle.line_cuts.proofs.Counting.{behind, one_answered}
use Rattle.line_cuts.proofs.outbox.Outbox.answer.Goals as goal

pub returns-clause-ok : goal.returns-clause-ok
returns-clause-ok g c =
    let (written, told, appended) = c.in_ok-answer.ensures.answered in
    let before = string_bytes c.args.self.now.text in
    let start = c.len-start.result in
    let ok = c.args.self.now.text.bytes.ok in
    let first : start ≡ length before = c.len-start.ensures ∙ ok.0 in
    let whole = c.as_bytes.ensures.value ∙ appended in
    let tail = ap (λ l. take (length l - start) (drop start l)) whole ∙ behind start before written first in
    let refuses = g.A.LineAnswers.refuses c.args.answers.now in
    let compared = c.is_refused-is_refused.ensures ∙ ap refuses tail in
    record {
      written = written;
      answered = one_answered _ _ c.args.line.now written _ _ told c.saturating_add-self.ensures (ap (λ b. c.args.self.now.report.any_refused || b) compared);
      appended = appended;
    }
