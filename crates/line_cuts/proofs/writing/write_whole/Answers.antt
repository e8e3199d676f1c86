use Rattle.std.proofs.Common.{◌<◌, ◌∙◌, ◌++◌, take, arith}
use Rattle.std.proofs.KnownBytes.{Appends-trans}
use Rattle.line_cuts.proofs.Fronts.{moves_front}
use Rattle.line_cuts.proofs.writing.write_whole.Goals as goal

pub loop-rest-preserved : goal.loop-rest-preserved
loop-rest-preserved g c =
    let (done, split, appended, quiet) = c.loop-rest.invariant in
    let rest = c.loop-rest.rest.now in
    let n = c.in-Ok.count in
    let some : 0 < n = omega arith in
    (done ++ take n rest, moves_front _ done rest n split, Appends-trans _ _ _ _ _ appended c.in-Ok.ensures.bytes, c.in-Ok.ensures.quiet some ∙ quiet)
