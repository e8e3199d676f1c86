use Rattle.std.proofs.Common.{◌≡◌}
use Rattle.serde_json.specs.View.{members_view}
use Rattle.applicator_reading.specs.Others.{first_other_member}
use Rattle.applicator_reading.proofs.entries.other_member.Given as goal

abbrev pub invariant-loop-name : goal.invariant-loop-name
invariant-loop-name l = first_other_member (members_view l.fn.members.entries) ≡ first_other_member (members_view l.name-iterator)
