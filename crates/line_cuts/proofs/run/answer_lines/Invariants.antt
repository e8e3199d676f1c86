use Rattle.std.proofs.Common.{◌≡◌, ◌<◌, [], ◌∷◌, string_bytes, length}
use Rattle.line_cuts.specs.Cuts.{pieces}
use Rattle.line_cuts.specs.Steps.{Reads}
use Rattle.line_cuts.proofs.run.answer_lines.Given as goal

abbrev pub invariant-loop-progress : goal.invariant-loop-progress
invariant-loop-progress g l = record {
  kept : g.A.LineAnswers.keeps l.answers l.kept;
  reads : Reads (g.A.LineAnswers.refuses l.answers) (g.A.LineAnswers.answers l.answers) (g.S.ByteSource.remaining l.fn.reader) (g.S.ByteSource.remaining l.reader) (g.K.ByteSink.contents l.fn.writer)
      (g.K.ByteSink.contents l.writer) l.progress.line.items l.progress.outbox.report;
  plain : pieces l.progress.line.items ≡ l.progress.line.items ∷ [];
  text : string_bytes l.progress.outbox.text ≡ [];
  read_quiet : g.S.ByteSource.failures l.reader ≡ g.S.ByteSource.failures l.fn.reader;
  write_quiet : g.K.ByteSink.failures l.writer ≡ g.K.ByteSink.failures l.fn.writer;
  room : 0 < length l.buffer;
}

abbrev pub decreases-loop-progress : goal.decreases-loop-progress
decreases-loop-progress g l = g.S.ByteSource.turns l.reader
