use Rattle.std.proofs.Common.{◌≡◌}
use Rattle.answer_checks.specs.Checks.{IsPairCheckedBy, pair_bytes}
use Rattle.answer_checks.proofs.Going.{Went}
use Rattle.answer_checks.proofs.run.check_lines.Given as goal

abbrev pub invariant-loop-pair : goal.invariant-loop-pair
invariant-loop-pair g l = record {
  went : Went pair_bytes (IsPairCheckedBy g.M.PatternMatcher.finds l.checker) l.lines (g.K.ByteSink.contents l.fn.writer) l.pair-index l.report (g.K.ByteSink.contents l.writer);
  quiet : g.K.ByteSink.failures l.writer ≡ g.K.ByteSink.failures l.fn.writer;
}
