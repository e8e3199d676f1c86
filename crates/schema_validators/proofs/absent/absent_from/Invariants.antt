use Rattle.std.proofs.Common.{map, take}
use Rattle.std.specs.List.{AllZip, flat_map}
use Rattle.document_index.specs.Seen.{document_of, standing_of}
use Rattle.schema_validators.specs.Absent.{NamesAbsent, absent_at, is_known_by}
use Rattle.schema_validators.proofs.absent.absent_from.Given as goal

abbrev pub invariant-loop-standing : goal.invariant-loop-standing
invariant-loop-standing l =
    AllZip NamesAbsent (flat_map (absent_at (is_known_by l.index (map document_of l.documents))) (map standing_of (take l.standing-index l.standing-items))) l.causes.items
