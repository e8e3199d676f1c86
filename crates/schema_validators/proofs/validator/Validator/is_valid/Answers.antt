use Rattle.std.proofs.Common.{◌≡◌, ◌<◌, [], IfOk, length, sym, subst}
use Rattle.std.proofs.lemmas.Result.{IfOk-weaker}
use Rattle.serde_json.specs.View.{view}
use Rattle.compiled_graphs.specs.declared.schemas.SchemaGraph.{SchemaGraph}
use Rattle.compiled_keywords.specs.Shapes.{shape_of}
use Rattle.graph_answers.specs.Answers.{IsVerdict}
use Rattle.graph_answers.specs.Certain.{IsAccepting}
use Rattle.graph_answers.specs.Completions.{matches_with}
use Rattle.graph_answers.proofs.CertainLemmas.{accepting_is}
use Rattle.schema_validators.specs.Seen.{nodes_in, table_in}
use Rattle.schema_validators.proofs.ByNodes.{verdict_answered}
use Rattle.schema_validators.proofs.Certifying.{verdict_certified}
use Rattle.schema_validators.proofs.validator.Validator.is_valid.Goals as goal

pub accepts_certain-requires : goal.accepts_certain-requires
accepts_certain-requires g c =
    let v = c.args.self.now in
    record { there = subst (λ (s : SchemaGraph _ _). v.start < length s.graph.nodes.items) (sym c.deref.ensures) v.there }

pub returns-clause-each : goal.returns-clause-each
returns-clause-each g c =
    let v = c.args.self.now in
    let d = view c.args.value.now in
    subst (λ (s : SchemaGraph _ _). IfOk c.accepts_certain.result (IsAccepting shape_of s.graph.nodes.items v.start d (matches_with g.M.PatternMatcher.finds s.table []))) c.deref.ensures
    c.accepts_certain.ensures.each

pub returns-clause-cut : goal.returns-clause-cut
returns-clause-cut g c =
    let v = c.args.self.now in
    IfOk-weaker c.accepts_certain.result _ _ (λ b h shut. accepting_is shape_of g.M.PatternMatcher.finds (nodes_in v) (table_in v) v.start (view c.args.value.now) b h shut)
    (returns-clause-each g c)

pub returns-clause-verdict : goal.returns-clause-verdict
returns-clause-verdict g c =
    let v = c.args.self.now in
    let d = view c.args.value.now in
    let finds = g.M.PatternMatcher.finds in
    let told = subst (λ (s : SchemaGraph _ _). IfOk c.accepts_certain.result (IsVerdict shape_of finds s.graph.nodes.items s.table v.start d)) c.deref.ensures c.accepts_certain.ensures.verdict in
    IfOk-weaker c.accepts_certain.result _ _ (λ b h p r made. verdict_answered finds p r (nodes_in v) v.start (table_in v) made d b h) told

pub returns-clause-certified : goal.returns-clause-certified
returns-clause-certified g c =
    let v = c.args.self.now in
    let d = view c.args.value.now in
    let finds = g.M.PatternMatcher.finds in
    let told = subst (λ (s : SchemaGraph _ _). IfOk c.accepts_certain.result (IsVerdict shape_of finds s.graph.nodes.items s.table v.start d)) c.deref.ensures c.accepts_certain.ensures.verdict in
    IfOk-weaker c.accepts_certain.result _ _ (λ b h p r made. verdict_certified p r d b (verdict_answered finds p r (nodes_in v) v.start (table_in v) made d b h)) told
