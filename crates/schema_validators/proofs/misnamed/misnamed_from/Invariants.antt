use Rattle.std.proofs.Common.{map, take}
use Rattle.std.specs.List.{AllZip, flat_map}
use Rattle.document_index.specs.Checked.{unknown_by}
use Rattle.document_index.specs.Seen.{document_of, standing_of}
use Rattle.schema_validators.specs.Misnamed.{NamesMisnamed, misnamed_at}
use Rattle.schema_validators.proofs.misnamed.misnamed_from.Given as goal

abbrev pub invariant-loop-standing : goal.invariant-loop-standing
invariant-loop-standing l =
    AllZip NamesMisnamed (flat_map (misnamed_at (unknown_by (map document_of l.documents))) (map standing_of (take l.standing-index l.standing-items))) l.causes.items
