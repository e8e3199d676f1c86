use Rattle.std.proofs.Common.{◌∙◌, ap}
use Rattle.schema_validators.specs.Maps.{entry_at}
use Rattle.schema_validators.proofs.validator_map.ValidatorMap.get.Goals as goal

pub returns : goal.returns
returns g c = record { value = c.get.ensures.value ∙ ap (entry_at c.args.self.now) c.pointer_in.ensures }
