use Rattle.std.proofs.Common.{◌≡◌, ◌++◌, map}
use Rattle.schema_definitions.specs.Lines.{paths_of}
use Rattle.schema_reports.specs.Left.{errors_left}
use Rattle.schema_reports.specs.Told.{faults_of}
use Rattle.schema_reports.specs.Pairs.{pair_bytes}
use Rattle.error_texts.proofs.faults.path_pairs.Given as goal

-- the pairs of the errors so far, and of those that are left
abbrev pub invariant-loop-error : goal.invariant-loop-error
invariant-loop-error l =
    map pair_bytes l.pairs.items ++ paths_of (faults_of (errors_left l.error-iterator)) ≡ paths_of (faults_of (errors_left l.initial.error-iterator))
