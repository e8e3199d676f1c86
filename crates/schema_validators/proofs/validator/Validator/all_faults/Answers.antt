use Rattle.std.proofs.Common.{◌≡◌, ◌<◌, ◌∙◌, [], length, refl, sym, ap, subst}
use Rattle.serde_json.specs.View.{view}
use Rattle.schema_meaning.specs.Faults.{is_none}
use Rattle.schema_reports.specs.Left.{errors_left}
use Rattle.schema_reports.specs.Told.{faults_of, are_proper}
use Rattle.compiled_graphs.specs.declared.schemas.SchemaGraph.{SchemaGraph}
use Rattle.compiled_keywords.specs.Shapes.{shape_of}
use Rattle.graph_answers.specs.Certain.{IsCertain, AreThoseFaults, HaveThoseCertificates}
use Rattle.graph_answers.specs.Completions.{matches_with}
use Rattle.schema_validators.specs.ByNodes.{TellsBy}
use Rattle.schema_validators.specs.Seen.{nodes_in, table_in}
use Rattle.schema_validators.proofs.ByNodes.{verdict_told, faults_told, certificates_told}
use Rattle.schema_validators.proofs.MissingLemmas.{each_missing}
use Rattle.schema_validators.proofs.validator.Validator.all_faults.Goals as goal

pub tell_certain-requires : goal.tell_certain-requires
tell_certain-requires g c =
    let v = c.args.self.now in
    record { there = subst (λ (s : SchemaGraph _ _). v.start < length s.graph.nodes.items) (sym c.deref.ensures) v.there }

pub returns-clause-each : goal.returns-clause-each
returns-clause-each g c =
    let v = c.args.self.now in
    let d = view c.args.value.now in
    subst (λ es. TellsBy v d (faults_of es)) (sym c.of.ensures)
    (subst (λ (s : SchemaGraph _ _). IsCertain shape_of s.graph.nodes.items v.start d (matches_with g.M.PatternMatcher.finds s.table []) (faults_of c.in_ok-errors.errors.items)) c.deref.ensures
    c.in_ok-errors.ensures.each)

pub returns-clause-verdict : goal.returns-clause-verdict
returns-clause-verdict g c = λ p r made.
    let v = c.args.self.now in
    let d = view c.args.value.now in
    let finds = g.M.PatternMatcher.finds in
    let those = subst (λ (s : SchemaGraph _ _). AreThoseFaults shape_of finds s.graph.nodes.items s.table v.start d (faults_of c.in_ok-errors.errors.items)) c.deref.ensures c.in_ok-errors.ensures.faults in
    verdict_told finds p r (nodes_in v) v.start (table_in v) made d (faults_of c.in_ok-errors.errors.items) those (is_none (faults_of (errors_left c.of.result))) (ap (λ es. is_none (faults_of es)) c.of.ensures)

pub returns-clause-faults : goal.returns-clause-faults
returns-clause-faults g c = λ p r made.
    let v = c.args.self.now in
    let d = view c.args.value.now in
    let finds = g.M.PatternMatcher.finds in
    let those = subst (λ es. AreThoseFaults shape_of finds (nodes_in v) (table_in v) v.start d (faults_of es)) (sym c.of.ensures)
    (subst (λ (s : SchemaGraph _ _). AreThoseFaults shape_of finds s.graph.nodes.items s.table v.start d (faults_of c.in_ok-errors.errors.items)) c.deref.ensures c.in_ok-errors.ensures.faults) in
    faults_told finds p r (nodes_in v) v.start (table_in v) made d (faults_of (errors_left c.of.result)) those

pub returns-clause-proper : goal.returns-clause-proper
returns-clause-proper g c = ap are_proper c.of.ensures ∙ c.in_ok-errors.ensures.proper

pub returns-clause-certified : goal.returns-clause-certified
returns-clause-certified g c = λ p r made.
    let v = c.args.self.now in
    let d = view c.args.value.now in
    let finds = g.M.PatternMatcher.finds in
    let those = subst (λ es. HaveThoseCertificates shape_of finds (nodes_in v) (table_in v) v.start d (faults_of es)) (sym c.of.ensures)
    (subst (λ (s : SchemaGraph _ _). HaveThoseCertificates shape_of finds s.graph.nodes.items s.table v.start d (faults_of c.in_ok-errors.errors.items)) c.deref.ensures c.in_ok-errors.ensures.certified) in
    certificates_told finds p r (nodes_in v) v.start (table_in v) made d (faults_of (errors_left c.of.result)) those

pub returns-clause-missing : goal.returns-clause-missing
returns-clause-missing g c = λ p r made. each_missing p r (view c.args.value.now) (faults_of (errors_left c.of.result)) (returns-clause-faults g c p r made)
