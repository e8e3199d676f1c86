use Rattle.std.proofs.Common.{◌++◌, ◌∷◌, [], refl, subst, string_bytes}
use Rattle.line_runs.specs.Forms.{IsCertainText}
use Rattle.line_runs.proofs.Telling.{ended_on}
use Rattle.line_runs.proofs.answers.LineFaultsLineAnswers.answer.Goals as goal

pub returns-clause-answered : goal.returns-clause-answered
returns-clause-answered g c =
    let v = c.args.self.now.validator.now in
    let (text, told, appended) = c.in_ok-answer_read.ensures in (
      text ++ 10 ∷ [],
      (text, subst (λ o. IsCertainText v o text) c.in_ok-value.ensures.value told, refl),
      ended_on (string_bytes c.args.text.now) text (10 ∷ []) appended c.in_ok-push_str.ensures.bytes refl,
    )
