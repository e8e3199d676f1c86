use Rattle.std.proofs.Common.{inl, refl}
use Rattle.validator_program.proofs.entry.run_program.Goals as goal

pub returns-in-Err-clause-stopped : goal.returns-in-Err-clause-stopped
returns-in-Err-clause-stopped g c = λ three. inl (refl, refl)
