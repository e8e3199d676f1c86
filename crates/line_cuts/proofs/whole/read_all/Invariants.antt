use Rattle.std.proofs.Common.{◌≡◌, ◌<◌, length}
use Rattle.std.specs.Io.KnownBytes.{Consumes}
use Rattle.line_cuts.proofs.whole.read_all.Given as goal

abbrev pub invariant-loop-bytes : goal.invariant-loop-bytes
invariant-loop-bytes g l = record {
  read : Consumes (g.S.ByteSource.remaining l.fn.reader) (g.S.ByteSource.remaining l.reader) l.bytes.items;
  quiet : g.S.ByteSource.failures l.reader ≡ g.S.ByteSource.failures l.fn.reader;
  room : 0 < length l.buffer;
}

abbrev pub decreases-loop-bytes : goal.decreases-loop-bytes
decreases-loop-bytes g l = g.S.ByteSource.turns l.reader
