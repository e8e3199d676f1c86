use Rattle.json_schema_validator.proofs.OneKey.{one_key_without_anchors}
use Rattle.json_schema_validator.proofs.laws.one_key_without_anchors.Goals as goal

pub returns : goal.returns
returns c = one_key_without_anchors
