use Rattle.std.proofs.Common.{◌++◌}
use Rattle.schema_reports.specs.Left.{errors_left}
use Rattle.schema_validators.proofs.Owning.{SayTheSame}
use Rattle.schema_validators.proofs.meta_faults.owned.Given as goal

-- the errors so far with those that are left
abbrev pub invariant-loop-error : goal.invariant-loop-error
invariant-loop-error l = SayTheSame (l.owned.items ++ errors_left l.error-iterator) (errors_left l.initial.error-iterator)
