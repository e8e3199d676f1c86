use Rattle.json_schema_validator.proofs.OneKey.{one_key_tells_the_same}
use Rattle.json_schema_validator.proofs.laws.one_key_tells_the_same.Goals as goal

pub returns : goal.returns
returns c = one_key_tells_the_same
