use Rattle.json_schema_validator.proofs.Bases.{bases_are_listed}
use Rattle.json_schema_validator.proofs.laws.bases_are_listed.Goals as goal

pub returns : goal.returns
returns c = bases_are_listed
