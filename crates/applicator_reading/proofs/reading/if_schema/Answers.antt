use Rattle.std.proofs.Common.{◌∙◌, sym}
use Rattle.serde_json.specs.View.{view}
use Rattle.applicator_reading.proofs.RowLemmas.{one-refused}
use Rattle.applicator_reading.proofs.reading.if_schema.Goals as goal

pub returns-else-is_schema-clause-read : goal.returns-else-is_schema-clause-read
returns-else-is_schema-clause-read c = λ x k shapes h. one-refused x k shapes (view c.args.schema.now) (sym c.is_schema.ensures ∙ c.if-is_schema.false)
