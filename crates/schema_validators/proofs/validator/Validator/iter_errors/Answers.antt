use Rattle.std.proofs.Common.{◌≡◌, OnOk, Result, Ok, Err}
use Rattle.std.proofs.lemmas.Result.{IfOk-weaker}
use Rattle.serde_json.specs.View.{view}
use Rattle.schema_reports.specs.Left.{errors_left}
use Rattle.schema_reports.specs.Told.{faults_of}
use Rattle.compiled_keywords.specs.Shapes.{shape_of}
use Rattle.graph_answers.proofs.CertainLemmas.{certain_is}
use Rattle.schema_validators.specs.Seen.{nodes_in, table_in}
use Rattle.schema_validators.proofs.Accepting.{agree_by}
use Rattle.schema_validators.proofs.validator.Validator.iter_errors.Goals as goal

always : {T E : Type 0} (x : Result T E) {P : Type 0} → P → OnOk x P
always (Ok y) p = p
always (Err e) p = tt

pub returns-clause-cut : goal.returns-clause-cut
returns-clause-cut g c =
    let v = c.args.self.now in
    IfOk-weaker c.all_faults.result _ _
    (λ es h shut. certain_is shape_of g.M.PatternMatcher.finds (nodes_in v) (table_in v) v.start (view c.args.value.now) (faults_of (errors_left es)) h shut) c.all_faults.ensures.each

pub returns-clause-agree : goal.returns-clause-agree
returns-clause-agree g c = always c.all_faults.result (agree_by c.args.self.now (view c.args.value.now))
