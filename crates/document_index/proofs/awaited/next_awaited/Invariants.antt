use Rattle.std.proofs.Common.{◌≡◌, map, take, option_map}
use Rattle.document_index.specs.Awaited.{awaited_among}
use Rattle.document_index.specs.Seen.{standing_of}
use Rattle.document_index.proofs.awaited.next_awaited.Given as goal

abbrev pub invariant-loop-standing : goal.invariant-loop-standing
invariant-loop-standing l = option_map (λ u. u.now) l.next ≡ awaited_among (map standing_of (take l.standing-index l.standings)) l.uri
