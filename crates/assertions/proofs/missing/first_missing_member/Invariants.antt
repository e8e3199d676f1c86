use Rattle.std.proofs.Common.{◌≡◌, drop}
use Rattle.serde_json.specs.View.{items_view, members_view}
use Rattle.assertions.specs.Wrong.{head, missing_in}
use Rattle.assertions.proofs.missing.first_missing_member.Given as goal

abbrev pub invariant-loop-name : goal.invariant-loop-name
invariant-loop-name l = head (missing_in (items_view l.names) (members_view l.members.entries)) ≡ head (missing_in (items_view (drop l.name-index l.names)) (members_view l.members.entries))
