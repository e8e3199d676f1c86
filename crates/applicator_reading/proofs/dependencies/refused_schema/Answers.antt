use Rattle.std.proofs.Common.{sym, ◌∙◌}
use Rattle.serde_json.specs.View.{view}
use Rattle.applicator_reading.proofs.DependencyLemmas.{refused_by, schema_refused}
use Rattle.applicator_reading.proofs.dependencies.refused_schema.Goals as goal

pub returns-else-is_schema-clause-wrong : goal.returns-else-is_schema-clause-wrong
returns-else-is_schema-clause-wrong c = λ x. refused_by _ _ (schema_refused x c.args.name.now (view c.args.entry.now) (sym c.is_schema.ensures ∙ c.if-is_schema.false))
