use Rattle.std.proofs.Common.{refl, Some, string_bytes, subst}
use Rattle.std.proofs.lemmas.Result.{on_ok_weaker}
use Rattle.serde_json.specs.View.{view}
use Rattle.schema_definitions.specs.Lines.{faults_text}
use Rattle.schema_reports.specs.Left.{errors_left}
use Rattle.schema_reports.specs.Told.{faults_of}
use Rattle.schema_validators.specs.Told.{faults_by}
use Rattle.line_runs.specs.Forms.{Tells, IsToldBy}
use Rattle.line_runs.specs.declared.form.LineForm.TheVariants.{Pairs}
use Rattle.line_runs.proofs.Telling.{told_on, in_form}
use Rattle.line_runs.proofs.answers.LineTask.answer_refused.Goals as goal

pub returns-in_ok-pairs-in-Pairs-clause-answered : goal.returns-in_ok-pairs-in-Pairs-clause-answered
returns-in_ok-pairs-in-Pairs-clause-answered g c =
    let v = c.args.self.now.validator.now in
    let d = view c.args.value.now in
    let fs = faults_by v d in
    let pairs = c.in_ok-pairs-in-Pairs.ensures in
    in_form (λ f. IsToldBy f v (Some d)) _ Pairs c.write_paths.result _ _ c.in-Pairs.is
    (told_on (IsToldBy Pairs v (Some d)) (string_bytes c.args.text.now) _ c.write_paths.result (faults_text fs)
    (record { nodes = refl; root = λ p r made. (fs, pairs.faults p r made, refl) })
    (on_ok_weaker c.write_paths.result (λ so. so fs pairs.cut) c.write_paths.ensures.ok))

pub returns-in_ok-errors-in-Objects-clause-answered : goal.returns-in_ok-errors-in-Objects-clause-answered
returns-in_ok-errors-in-Objects-clause-answered g c =
    let v = c.args.self.now.validator.now in
    let d = view c.args.value.now in
    let errors = c.in_ok-errors-in-Objects in
    on_ok_weaker c.write_refused.result
    (λ so. (
      so.0,
      record {
        nodes = subst (λ fs. Tells c.args.self.now.form fs so.0) errors.ensures.cut so.1;
        root = λ p r made. (faults_of (errors_left errors.errors), errors.ensures.faults p r made, so.1);
      },
      so.2,
    ))
    c.write_refused.ensures
