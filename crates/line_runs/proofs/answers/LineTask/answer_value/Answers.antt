use Rattle.std.proofs.Common.{◌∙◌, sym, subst}
use Rattle.serde_json.specs.View.{view}
use Rattle.schema_meaning.specs.Faults.{none}
use Rattle.schema_meaning.specs.Readings.{verdicts}
use Rattle.schema_registries.specs.Answers.{IsAnswer}
use Rattle.schema_validators.proofs.Accepting.{accepts_none, accepted_none}
use Rattle.line_runs.specs.Forms.{Tells}
use Rattle.line_runs.proofs.answers.LineTask.answer_value.Goals as goal

pub returns-then-branch-clause-answered : goal.returns-then-branch-clause-answered
returns-then-branch-clause-answered g c =
    let v = c.args.self.now.validator.now in
    let d = view c.args.value.now in
    let valid = c.in_ok-is_valid_by.ensures in
    let yes = c.if-branch.true in
    let (written, told, appended) = c.in_ok-write_accepted.ensures in (
      written,
      record {
        nodes = subst (λ fs. Tells c.args.self.now.form fs written) (sym (accepts_none v d (sym valid.cut ∙ yes))) told;
        root = λ p r made. (none, accepted_none p r d (subst (λ b. IsAnswer verdicts p r d b) yes (valid.verdict p r made)), told);
      },
      appended,
    )

pub answer_refused-requires-clause-refused : goal.answer_refused-requires-clause-refused
answer_refused-requires-clause-refused g c = sym c.in_ok-is_valid_by.ensures.cut ∙ c.if-branch.false
