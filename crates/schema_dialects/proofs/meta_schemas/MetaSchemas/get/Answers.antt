use Rattle.std.proofs.Common.{◌∙◌, ap, option_map}
use Rattle.schema_dialects.specs.Dialects.{dialect_of, dialects_in}
use Rattle.schema_dialects.proofs.meta_schemas.MetaSchemas.get.Goals as goal

pub returns : goal.returns
unfolding dialects_in
returns c = ap (option_map dialect_of) (c.copied.ensures ∙ c.get.ensures.value)
