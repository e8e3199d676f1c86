use Rattle.std.proofs.Common.{◌≡◌, ◌<◌, IfOk, length, sym, subst}
use Rattle.std.proofs.lemmas.Result.{IfOk-weaker}
use Rattle.serde_json.specs.View.{view}
use Rattle.compiled_graphs.specs.declared.schemas.SchemaGraph.{SchemaGraph}
use Rattle.compiled_keywords.specs.Shapes.{shape_of}
use Rattle.graph_answers.specs.Answers.{IsVerdict}
use Rattle.graph_answers.specs.Tables.{matches_of}
use Rattle.schema_validators.specs.Seen.{nodes_in, table_in}
use Rattle.schema_validators.proofs.ByNodes.{verdict_answered}
use Rattle.schema_validators.proofs.Certifying.{verdict_certified}
use Rattle.schema_validators.proofs.validator.Validator.is_valid_by.Goals as goal

pub is_valid_by-requires : goal.is_valid_by-requires
is_valid_by-requires g c =
    let v = c.args.self.now in
    record {
      there = subst (λ (s : SchemaGraph _ _). v.start < length s.graph.nodes.items) (sym c.deref.ensures) v.there;
      meant = subst (λ (s : SchemaGraph _ _). g.T.Matching.matches c.args.matching.now ≡ matches_of g.M.PatternMatcher.finds s.table) (sym c.deref.ensures) c.requires.meant;
    }

pub returns-clause-verdict : goal.returns-clause-verdict
returns-clause-verdict g c =
    let v = c.args.self.now in
    let d = view c.args.value.now in
    let finds = g.M.PatternMatcher.finds in
    let told = subst (λ (s : SchemaGraph _ _). IfOk c.is_valid_by.result (IsVerdict shape_of finds s.graph.nodes.items s.table v.start d)) c.deref.ensures c.is_valid_by.ensures.verdict in
    IfOk-weaker c.is_valid_by.result _ _ (λ b h p r made. verdict_answered finds p r (nodes_in v) v.start (table_in v) made d b h) told

pub returns-clause-certified : goal.returns-clause-certified
returns-clause-certified g c =
    let v = c.args.self.now in
    let d = view c.args.value.now in
    let finds = g.M.PatternMatcher.finds in
    let told = subst (λ (s : SchemaGraph _ _). IfOk c.is_valid_by.result (IsVerdict shape_of finds s.graph.nodes.items s.table v.start d)) c.deref.ensures c.is_valid_by.ensures.verdict in
    IfOk-weaker c.is_valid_by.result _ _ (λ b h p r made. verdict_certified p r d b (verdict_answered finds p r (nodes_in v) v.start (table_in v) made d b h)) told
