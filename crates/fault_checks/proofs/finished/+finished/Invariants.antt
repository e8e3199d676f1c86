use Rattle.std.proofs.Common.{◌≡◌, drop}
use Rattle.serde_json.specs.View.{items_view, members_view}
use Rattle.schema_patterns.specs.Texts.{texts_of_items, texts_of_members}
use Rattle.fault_checks.specs.Finished.{leaves_none}
use Rattle.fault_checks.proofs.finished.+finished.Given as goal

abbrev pub invariant-is_finished_in_items-loop-item : goal.invariant-is_finished_in_items-loop-item
invariant-is_finished_in_items-loop-item l =
    leaves_none l.matches l.pattern (texts_of_items (items_view l.items)) ≡ leaves_none l.matches l.pattern (texts_of_items (items_view (drop l.item-index l.items)))

abbrev pub invariant-is_finished_in_members-loop-name : goal.invariant-is_finished_in_members-loop-name
invariant-is_finished_in_members-loop-name l =
    leaves_none l.matches l.pattern (texts_of_members (members_view l.members.entries)) ≡ leaves_none l.matches l.pattern (texts_of_members (members_view l.name-iterator))
