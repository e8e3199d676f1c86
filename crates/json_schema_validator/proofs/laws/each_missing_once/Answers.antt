use Rattle.json_schema_validator.proofs.Required.{each_missing_once}
use Rattle.json_schema_validator.proofs.laws.each_missing_once.Goals as goal

pub returns : goal.returns
returns c = each_missing_once
