use Rattle.std.proofs.Common.{◌≡◌, [], string_bytes, drop}
use Rattle.line_cuts.specs.Cuts.{bytes_of}
use Rattle.line_cuts.specs.Steps.{Goes, nothing_yet}
use Rattle.line_cuts.proofs.each.answer_each.Given as goal

abbrev pub invariant-loop-text : goal.invariant-loop-text
invariant-loop-text g l = record {
  kept : g.A.LineAnswers.keeps l.answers l.kept;
  goes : Goes (g.A.LineAnswers.refuses l.answers) (g.A.LineAnswers.answers l.answers) (bytes_of l.texts) (bytes_of (drop l.text-index l.texts)) nothing_yet l.outbox.report
      (g.K.ByteSink.contents l.fn.writer) (g.K.ByteSink.contents l.writer) [];
  empty : string_bytes l.outbox.text ≡ [];
  quiet : g.K.ByteSink.failures l.writer ≡ g.K.ByteSink.failures l.fn.writer;
}
