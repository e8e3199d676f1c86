use Rattle.std.proofs.Common.{◌≡◌, ◌+◌, ◌*◌}
use Rattle.schema_reports.specs.Told.{faults_of, branches_in, are_proper, context_is_proper}
use Rattle.schema_reports.proofs.owned.+owned.Given as goal

-- how deep the errors go, and a list's own step above those that it holds
abbrev pub decreases-owned_error : goal.decreases-owned_error
decreases-owned_error l = 4 * goal.size-owned_error l

abbrev pub decreases-owned_boxed : goal.decreases-owned_boxed
decreases-owned_boxed l = 4 * goal.size-owned_boxed l + 1

abbrev pub decreases-owned_kind : goal.decreases-owned_kind
decreases-owned_kind l = 4 * goal.size-owned_kind l

abbrev pub decreases-owned_errors : goal.decreases-owned_errors
decreases-owned_errors l = 4 * goal.size-owned_errors l + 1

abbrev pub decreases-owned_branches : goal.decreases-owned_branches
decreases-owned_branches l = 4 * goal.size-owned_branches l + 2

abbrev pub decreases-owned_context : goal.decreases-owned_context
decreases-owned_context l = 4 * goal.size-owned_context l + 3

abbrev pub invariant-owned_branches-loop-errors : goal.invariant-owned_branches-loop-errors
invariant-owned_branches-loop-errors l = record {
  told : branches_in l.owned.items ≡ branches_in l.yielded;
  proper : context_is_proper l.owned.items ≡ context_is_proper l.yielded;
}

abbrev pub invariant-owned_errors-loop-error : goal.invariant-owned_errors-loop-error
invariant-owned_errors-loop-error l = record {
  told : faults_of l.owned.items ≡ faults_of l.yielded;
  proper : are_proper l.owned.items ≡ are_proper l.yielded;
}
