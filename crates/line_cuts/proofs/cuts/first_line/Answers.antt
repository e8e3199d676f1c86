use Rattle.line_cuts.proofs.Cutting.{no_first, first_at}
use Rattle.line_cuts.proofs.cuts.first_line.Goals as goal

pub returns-in_err-end-clause-cut : goal.returns-in_err-end-clause-cut
returns-in_err-end-clause-cut c = rw c.from_residual.ensures (no_first c.args.bytes.now c.in_err-end.ensures)

pub returns-clause-cut : goal.returns-clause-cut
returns-clause-cut c = first_at c.args.bytes.now c.in_ok-end.end c.in_ok-end.ensures
