use Rattle.std.proofs.Common.{sym}
use Rattle.schema_validators.proofs.describing.of_retrieval.Goals as goal

pub returns-in-Failed : goal.returns-in-Failed
returns-in-Failed c = rw (c.in-Failed.is, sym c.as_str.ensures.value, sym c.as_str-in-Failed.ensures.value) c.joined.ensures
