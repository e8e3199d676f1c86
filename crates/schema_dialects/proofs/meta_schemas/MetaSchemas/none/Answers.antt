use Rattle.schema_dialects.specs.Dialects.{dialects_in}
use Rattle.schema_dialects.proofs.Dialects.{none_known}
use Rattle.schema_dialects.proofs.meta_schemas.MetaSchemas.none.Goals as goal

pub returns : goal.returns
unfolding dialects_in
returns c = none_known c.new.result c.new.ensures.empty
