use Rattle.std.proofs.Common.{◌≡◌}
use Rattle.serde_json.specs.Find.{unescape, get_member}
use Rattle.serde_json.specs.View.{members_view}
use Rattle.json_pointers.proofs.pointers.member.Given as goal

abbrev pub invariant-loop-name : goal.invariant-loop-name
invariant-loop-name l = get_member (unescape l.token) (members_view l.fn.members.entries) ≡ get_member (unescape l.token) (members_view l.name-iterator)
