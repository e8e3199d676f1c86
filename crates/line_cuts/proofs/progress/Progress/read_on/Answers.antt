use Rattle.std.proofs.Common.{◌++◌, take}
use Rattle.std.proofs.lemmas.Result.{err_from_is_err_and}
use Rattle.line_cuts.proofs.Cutting.{kept_plain}
use Rattle.line_cuts.proofs.Reading.{reads_more, stops_broken}
use Rattle.line_cuts.proofs.progress.Progress.read_on.Goals as goal

pub returns-in_err-take_piece-in-Ok-clause-stops : goal.returns-in_err-take_piece-in-Ok-clause-stops
returns-in_err-take_piece-in-Ok-clause-stops g c =
    let p = err_from_is_err_and c.from_residual.result c.from_residual.ensures.1 in
    rw (p.1, p.2) (stops_broken _ _ _ _ _ _ _ _ _ _ _ _ c.in-Ok.ensures.bytes.0 c.in_err-take_piece-in-Ok.ensures.breaks c.in_err-take_piece-in-Ok.ensures.failed)

pub returns-in_ok-take_piece-in-Ok-clause-reads : goal.returns-in_ok-take_piece-in-Ok-clause-reads
returns-in_ok-take_piece-in-Ok-clause-reads g c = record {
  onward =
      λ from before r.
      reads_more _ _ from _ before _ _ _ r _ _ _ _ _ c.in-Ok.ensures.bytes.0 c.in_ok-take_piece-in-Ok.ensures.goes c.in_ok-take_piece-in-Ok.ensures.part;
}

pub returns-in_ok-take_piece-in-Ok-clause-plain : goal.returns-in_ok-take_piece-in-Ok-clause-plain
returns-in_ok-take_piece-in-Ok-clause-plain g c =
    kept_plain c.take_piece.new.self.line.items (c.args.self.now.line.items ++ take c.in-Ok.count c.read.new.buf) c.in_ok-take_piece-in-Ok.ensures.part
