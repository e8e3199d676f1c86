use Rattle.std.proofs.Common.{◌≡◌, [], ◌∷◌, ◌++◌, string_bytes, length}
use Rattle.line_cuts.specs.Cuts.{ended_in, part_of, pieces}
use Rattle.line_cuts.specs.Steps.{Goes}
use Rattle.line_cuts.proofs.progress.Progress.take_piece.Given as goal

abbrev pub invariant-loop-end : goal.invariant-loop-end
invariant-loop-end g l = record {
  kept : g.A.LineAnswers.keeps l.answers l.kept;
  goes : Goes (g.A.LineAnswers.refuses l.answers) (g.A.LineAnswers.answers l.answers) (ended_in (l.fn.self.line.items ++ l.piece)) (ended_in (l.self.line.items ++ l.rest)) l.fn.self.outbox.report l.self.outbox.report
      (g.K.ByteSink.contents l.fn.writer) (g.K.ByteSink.contents l.writer) (string_bytes l.self.outbox.text);
  part : part_of (l.fn.self.line.items ++ l.piece) ≡ part_of (l.self.line.items ++ l.rest);
  plain : pieces l.self.line.items ≡ l.self.line.items ∷ [];
  quiet : g.K.ByteSink.failures l.writer ≡ g.K.ByteSink.failures l.fn.writer;
}

abbrev pub decreases-loop-end : goal.decreases-loop-end
decreases-loop-end g l = length l.rest
