use Rattle.std.proofs.Common.{inr, refl}
use Rattle.schema_validators.proofs.meta_schema.refusal.Goals as goal

pub returns-in-Ok-clause-fault : goal.returns-in-Ok-clause-fault
returns-in-Ok-clause-fault c = inr (record { place = c.in-Ok.place; meta_schema = c.in-Ok.meta_schema; fault = c.args.fault }, refl, refl)
