use Rattle.std.proofs.Common.{◌≡◌, ◌+◌, ◌≤◌, map, drop, length, is_some}
use Rattle.std.specs.List.{filter}
use Rattle.schema_definitions.specs.Bearers.{Standing}
use Rattle.document_index.specs.Seen.{standing_of}
use Rattle.document_index.proofs.awaited.how_many_await.Given as goal

abbrev pub invariant-loop-standing : goal.invariant-loop-standing
invariant-loop-standing l =
    record {
      within : l.count ≤ l.standing-index;
      counted : length (filter (λ (s : Standing). is_some s.place.awaits) (map standing_of l.standings))
          ≡ l.count + length (filter (λ (s : Standing). is_some s.place.awaits) (map standing_of (drop l.standing-index l.standings)));
    }
