use Rattle.std.proofs.Common.{◌+◌, ◌*◌, ◌≤◌, length}
use Rattle.serde_json.specs.View.{members_view}
use Rattle.fault_paths.specs.Texts.{text_left}
use Rattle.fault_checks.specs.Steps.{Passes}
use Rattle.fault_checks.specs.declared.walk.Step.TheVariants.{On}
use Rattle.fault_checks.proofs.NamedSteps.{NamesLeft}
use Rattle.fault_checks.proofs.walking.+walks.Given as goal

abbrev pub decreases-walked : goal.decreases-walked
decreases-walked l = 3 * length (text_left l.walk.evaluation)

abbrev pub decreases-at_name : goal.decreases-at_name
decreases-at_name l = 3 * length (text_left l.names.now.evaluation) + 1

abbrev pub decreases-through_names : goal.decreases-through_names
decreases-through_names l = 3 * length (text_left l.names.now.evaluation) + 2

abbrev pub invariant-through_names-loop-name : goal.invariant-through_names-loop-name
invariant-through_names-loop-name l = NamesLeft l.names (members_view l.name-iterator)

abbrev pub invariant-walked-loop-accepted : goal.invariant-walked-loop-accepted
invariant-walked-loop-accepted l = record {
  passes : Passes l.fn.walk (On l.now);
  shorter : length (text_left l.now.evaluation) ≤ length (text_left l.fn.walk.evaluation);
}

abbrev pub decreases-walked-loop-accepted : goal.decreases-walked-loop-accepted
decreases-walked-loop-accepted l = length (text_left l.now.evaluation)
