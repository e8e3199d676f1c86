use Rattle.std.proofs.Common.{◌<◌, [], IfOk, length, sym, subst}
use Rattle.std.proofs.lemmas.Result.{IfOk-weaker}
use Rattle.serde_json.specs.View.{view}
use Rattle.compiled_graphs.specs.declared.schemas.SchemaGraph.{SchemaGraph}
use Rattle.compiled_keywords.specs.Shapes.{shape_of}
use Rattle.graph_answers.specs.Completions.{matches_with}
use Rattle.graph_answers.specs.Runs.{IsDecision, IsVerdictOf}
use Rattle.schema_validators.specs.Seen.{nodes_in, table_in}
use Rattle.schema_validators.proofs.ByNodes.{decided_as}
use Rattle.schema_validators.proofs.validator.Validator.decide.Goals as goal

pub decide-requires : goal.decide-requires
decide-requires g c =
    let v = c.args.self.now in
    record { there = subst (λ (s : SchemaGraph _ _). v.start < length s.graph.nodes.items) (sym c.deref.ensures) v.there }

pub returns-clause-cut : goal.returns-clause-cut
returns-clause-cut g c =
    let v = c.args.self.now in
    let d = view c.args.value.now in
    subst (λ (s : SchemaGraph _ _). IfOk c.decide.result (IsDecision shape_of s.graph.nodes.items v.start d (matches_with g.M.PatternMatcher.finds s.table []))) c.deref.ensures c.decide.ensures.cut

pub returns-clause-verdict : goal.returns-clause-verdict
returns-clause-verdict g c =
    let v = c.args.self.now in
    let d = view c.args.value.now in
    let finds = g.M.PatternMatcher.finds in
    let told = subst (λ (s : SchemaGraph _ _). IfOk c.decide.result (IsVerdictOf shape_of finds s.graph.nodes.items s.table v.start d)) c.deref.ensures c.decide.ensures.verdict in
    IfOk-weaker c.decide.result _ _ (λ a h p r made. decided_as finds p r (nodes_in v) v.start (table_in v) made d a h) told
