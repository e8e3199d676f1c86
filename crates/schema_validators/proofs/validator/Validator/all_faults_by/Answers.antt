use Rattle.std.proofs.Common.{◌≡◌, ◌∙◌, true, ap, subst, sym}
use Rattle.serde_json.specs.View.{view}
use Rattle.schema_meaning.specs.Faults.{none, is_none}
use Rattle.schema_engine.specs.Hearing.{HearsMore}
use Rattle.schema_reports.specs.Left.{errors_left}
use Rattle.schema_reports.specs.Told.{faults_of, are_proper}
use Rattle.schema_reports.specs.declared.observer.Observation.TheVariants.{All}
use Rattle.schema_validators.specs.Seen.{nodes_in, table_in}
use Rattle.schema_validators.specs.Told.{faults_by}
use Rattle.schema_validators.proofs.ByNodes.{verdict_of, faults_answered, faults_certified}
use Rattle.schema_validators.proofs.Hearing.{all_say}
use Rattle.schema_validators.proofs.MissingLemmas.{each_missing}
use Rattle.schema_validators.proofs.validator.Validator.all_faults_by.Goals as goal

pub unreachable-requires : goal.unreachable-requires
unreachable-requires g c = (subst (HearsMore _ _) c.in-Verdict.is c.in_ok-observer.ensures.heard).heard All none c.new.ensures

pub unreachable-requires-in-First : goal.unreachable-requires-in-First
unreachable-requires-in-First g c = (subst (HearsMore _ _) c.in-First.is c.in_ok-observer.ensures.heard).heard All none c.new.ensures

pub unreachable-requires-in-Paths : goal.unreachable-requires-in-Paths
unreachable-requires-in-Paths g c = (subst (HearsMore _ _) c.in-Paths.is c.in_ok-observer.ensures.heard).heard All none c.new.ensures

pub returns-clause-cut : goal.returns-clause-cut
returns-clause-cut g c =
    let fs = faults_by c.args.self.now (view c.args.value.now) in
    let are = all_say fs c.new.result c.in-All.all c.new.ensures (subst (HearsMore fs _) c.in-All.is c.in_ok-observer.ensures.heard) c.into_errors.result.items c.into_errors.ensures in
    ap faults_of c.of.ensures ∙ are.told

pub returns-clause-verdict : goal.returns-clause-verdict
returns-clause-verdict g c = λ p r made.
    let v = c.args.self.now in
    verdict_of g.M.PatternMatcher.finds p r (nodes_in v) v.start (table_in v) made (view c.args.value.now) c.in_ok-observer.ensures.faults _ (ap is_none (returns-clause-cut g c))

pub returns-clause-faults : goal.returns-clause-faults
returns-clause-faults g c = λ p r made.
    let v = c.args.self.now in
    faults_answered g.M.PatternMatcher.finds p r (nodes_in v) v.start (table_in v) made (view c.args.value.now) c.in_ok-observer.ensures.faults (faults_of (errors_left c.of.result)) (returns-clause-cut g c)

pub returns-clause-proper : goal.returns-clause-proper
returns-clause-proper g c =
    let fs = faults_by c.args.self.now (view c.args.value.now) in
    let are = all_say fs c.new.result c.in-All.all c.new.ensures (subst (HearsMore fs _) c.in-All.is c.in_ok-observer.ensures.heard) c.into_errors.result.items c.into_errors.ensures in
    ap are_proper c.of.ensures ∙ are.proper

pub returns-clause-certified : goal.returns-clause-certified
returns-clause-certified g c = λ p r made.
    let v = c.args.self.now in
    faults_certified g.M.PatternMatcher.finds p r (nodes_in v) v.start (table_in v) made (view c.args.value.now) c.in_ok-observer.ensures.certified (faults_of (errors_left c.of.result)) (returns-clause-cut g c)

pub returns-clause-missing : goal.returns-clause-missing
returns-clause-missing g c = λ p r made. each_missing p r (view c.args.value.now) (faults_of (errors_left c.of.result)) (returns-clause-faults g c p r made)
