use Rattle.std.proofs.Common.{◌∙◌, ap, subst}
use Rattle.schema_reports.specs.Left.{errors_left}
use Rattle.schema_reports.specs.Stands.{is_one_of}
use Rattle.schema_reports.specs.Told.{faults_of, are_proper}
use Rattle.graph_answers.proofs.CertainLemmas.{first_left}
use Rattle.graph_answers.proofs.certain.first_of.Goals as goal

pub returns : goal.returns
returns c = λ proper.
    subst (λ es. is_one_of c.next.result (faults_of es)) c.of-errors.ensures
    (first_left (errors_left c.of-errors.result) (errors_left c.next.new.self) c.next.result c.next.ensures.steps (ap are_proper c.of-errors.ensures ∙ proper))
