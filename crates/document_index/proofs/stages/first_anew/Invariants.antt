use Rattle.std.proofs.Common.{◌≡◌, map, drop}
use Rattle.std.specs.Prelude.{slice_get}
use Rattle.std.specs.List.{flat_map}
use Rattle.schema_dialects.specs.Dialects.{dialects_in}
use Rattle.document_index.specs.Seen.{standing_of}
use Rattle.document_laws.specs.Stages.{anew_at}
use Rattle.document_index.proofs.stages.first_anew.Given as goal

abbrev pub invariant-loop-standing : goal.invariant-loop-standing
invariant-loop-standing l =
    let anew = anew_at (dialects_in l.told) (dialects_in l.after) in
    slice_get (flat_map anew (map standing_of (drop l.standing-index l.standings))) 0 ≡ slice_get (flat_map anew (map standing_of l.standings)) 0
