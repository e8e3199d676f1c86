use Rattle.json_schema_validator.proofs.Agreeing.{roots_agree}
use Rattle.json_schema_validator.proofs.laws.roots_agree.Goals as goal

pub returns : goal.returns
returns c = roots_agree
