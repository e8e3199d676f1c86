use Rattle.std.proofs.Common.{refl}
use Rattle.serde_json.specs.View.{view}
use Rattle.schema_meaning.specs.Faults.{none}
use Rattle.schema_reports.specs.declared.observer.Observation.TheVariants.{Paths}
use Rattle.schema_validators.specs.Seen.{nodes_in, table_in}
use Rattle.schema_validators.specs.Told.{faults_by}
use Rattle.schema_validators.proofs.ByNodes.{faults_answered, faults_certified}
use Rattle.schema_validators.proofs.validator.Validator.pairs_by.Goals as goal

pub returns-clause-cut : goal.returns-clause-cut
returns-clause-cut g c =
    let fs = faults_by c.args.self.now (view c.args.value.now) in
    c.pairs_heard.ensures fs (c.in_ok-observer.ensures.heard.heard Paths none c.new.ensures)

pub returns-clause-faults : goal.returns-clause-faults
returns-clause-faults g c = λ p r made.
    let v = c.args.self.now in
    let d = view c.args.value.now in
    faults_answered g.M.PatternMatcher.finds p r (nodes_in v) v.start (table_in v) made d c.in_ok-observer.ensures.faults (faults_by v d) refl

pub returns-clause-certified : goal.returns-clause-certified
returns-clause-certified g c = λ p r made.
    let v = c.args.self.now in
    let d = view c.args.value.now in
    faults_certified g.M.PatternMatcher.finds p r (nodes_in v) v.start (table_in v) made d c.in_ok-observer.ensures.certified (faults_by v d) refl
