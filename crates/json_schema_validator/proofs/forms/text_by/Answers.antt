use Rattle.std.proofs.Common.{◌∙◌, ap, ℕ, List, [], ◌∷◌, ◌++◌}
use Rattle.schema_definitions.specs.Lines.{faults_text}
use Rattle.schema_reports.specs.Left.{errors_left}
use Rattle.schema_reports.specs.Told.{faults_of}
use Rattle.json_schema_validator.proofs.forms.text_by.Goals as goal

pub returns : goal.returns
returns g c = λ p r made.
    let fs = faults_of (errors_left c.in_ok-errors.errors) in
    let written = c.in_ok-write_faults.ensures.ok ∙ ap (λ (bytes : List ℕ). bytes ++ faults_text fs) c.new-text.ensures.bytes in
    (fs, c.in_ok-errors.ensures.faults p r made, c.in_ok-push_str.ensures.bytes ∙ ap (λ (bytes : List ℕ). bytes ++ 10 ∷ []) written)
