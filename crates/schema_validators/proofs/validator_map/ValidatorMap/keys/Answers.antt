use Rattle.std.proofs.Common.{◌∙◌, ap, map, string_bytes}
use Rattle.schema_validators.proofs.Entries.{key-texts}
use Rattle.schema_validators.proofs.validator_map.ValidatorMap.keys.Goals as goal

pub returns : goal.returns
returns g c = ap (map string_bytes) c.keys.ensures.rest ∙ key-texts c.args.self.now.validators.entries
