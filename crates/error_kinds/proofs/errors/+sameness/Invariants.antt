use Rattle.std.proofs.Common.{◌≡◌, ◌+◌, drop}
use Rattle.schema_reports.specs.Kinds.{kind_of, context_branches}
use Rattle.schema_reports.specs.Told.{fault_of, faults_of, branches_in}
use Rattle.error_kinds.specs.Faults.{same_faults, same_branches}
use Rattle.error_kinds.specs.Sizes.{fault_size, kind_size, faults_size, branches_size}
use Rattle.error_kinds.proofs.errors.+sameness.Given as goal

-- by what the first of the two tells
abbrev pub decreases-same_error : goal.decreases-same_error
decreases-same_error l = fault_size (fault_of l.one.now)

abbrev pub decreases-same_kind : goal.decreases-same_kind
decreases-same_kind l = kind_size (kind_of l.one.now)

abbrev pub decreases-same_context : goal.decreases-same_context
decreases-same_context l = branches_size (context_branches l.one.now) + 1

abbrev pub decreases-same_branches : goal.decreases-same_branches
decreases-same_branches l = branches_size (branches_in l.ones.now)

abbrev pub decreases-same_errors : goal.decreases-same_errors
decreases-same_errors l = faults_size (faults_of l.ones.now)

abbrev pub invariant-same_branches-loop-index : goal.invariant-same_branches-loop-index
invariant-same_branches-loop-index l = same_branches (branches_in l.ones) (branches_in l.others)
    ≡ same_branches (branches_in (drop l.index l.ones)) (branches_in (drop l.index l.others))

abbrev pub invariant-same_errors-loop-index : goal.invariant-same_errors-loop-index
invariant-same_errors-loop-index l = same_faults (faults_of l.ones) (faults_of l.others)
    ≡ same_faults (faults_of (drop l.index l.ones)) (faults_of (drop l.index l.others))
