use Rattle.std.proofs.Common.{refl, Some, string_bytes}
use Rattle.serde_json.specs.View.{view}
use Rattle.schema_definitions.specs.Lines.{faults_text}
use Rattle.schema_reports.specs.Left.{errors_left}
use Rattle.schema_reports.specs.Told.{faults_of}
use Rattle.line_runs.specs.Forms.{IsCertainText}
use Rattle.line_runs.proofs.Telling.{told_on}
use Rattle.line_runs.proofs.answers.LineFaults.answer_value.Goals as goal

pub returns : goal.returns
returns g c =
    let v = c.args.self.now.validator.now in
    let d = view c.args.value.now in
    let errors = c.in_ok-errors in
    let fs = faults_of (errors_left errors.errors) in
    told_on (λ t. IsCertainText v (Some d) t) (string_bytes c.args.text.now) _ c.write_faults.result (faults_text fs)
    (record {
      certain = (fs, record { each = errors.ensures.each; nodes = errors.ensures.cut }, refl);
      root = λ p r made. (fs, errors.ensures.faults p r made, refl);
    })
    c.write_faults.ensures.ok
