use Rattle.std.proofs.Common.{◌++◌, refl, subst, string_bytes}
use Rattle.line_runs.specs.Forms.{IsToldBy, end_of}
use Rattle.line_runs.proofs.Telling.{ended_on}
use Rattle.line_runs.proofs.answers.LineTask.answer_line.Goals as goal

pub returns-clause-answered : goal.returns-clause-answered
returns-clause-answered g c =
    let form = c.args.self.now.form in
    let v = c.args.self.now.validator.now in
    let (text, told, appended) = c.in_ok-verdict.ensures.answered in (
      text ++ end_of form,
      (text, subst (λ o. IsToldBy form v o text) c.in_ok-value.ensures.value told, refl),
      ended_on (string_bytes c.args.text.now) text (end_of form) appended c.in_ok-push_str.ensures.bytes c.end.ensures,
    )
