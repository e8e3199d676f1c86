use Rattle.std.proofs.Common.{◌≡◌}
use Rattle.std.specs.Io.KnownBytes.{Keeps}
use Rattle.line_cuts.proofs.over.OverWrite.write_uninterrupted.Given as goal

abbrev pub invariant-loop : goal.invariant-loop
invariant-loop g l =
    let contents = g.W.Write.contents in record {
      bytes : Keeps (contents l.fn.self.inner) (contents l.self.inner);
      failures : l.self.failures ≡ l.fn.self.failures;
    }
