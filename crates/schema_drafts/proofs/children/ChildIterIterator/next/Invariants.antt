use Rattle.std.proofs.Common.{◌≡◌, length}
use Rattle.schema_drafts.specs.Left.{members_left, left}
use Rattle.schema_drafts.proofs.children.ChildIterIterator.next.Given as goal

abbrev pub invariant-loop-schema : goal.invariant-loop-schema
invariant-loop-schema l = left l.initial.self ≡ left l.self

abbrev pub decreases-loop-schema : goal.decreases-loop-schema
decreases-loop-schema l = length (members_left l.self.members)
