-- The exit status of a fault.
use Rattle.std.specs.Prelude.{ℕ}
use Rattle.validator_program.specs.declared.fault.ProgramFault.{ProgramFault}
use Rattle.validator_program.specs.declared.fault.ProgramFault.TheVariants.{Count, Run}

abbrev pub status_of : ProgramFault → ℕ
status_of (Count name instances lines) = 3
status_of (Run e) = 3
status_of _ = 2
