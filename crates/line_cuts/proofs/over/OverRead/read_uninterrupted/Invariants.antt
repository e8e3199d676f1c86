use Rattle.std.proofs.Common.{◌≡◌, ◌≤◌}
use Rattle.std.specs.Io.KnownBytes.{Keeps}
use Rattle.line_cuts.proofs.over.OverRead.read_uninterrupted.Given as goal

abbrev pub invariant-loop-self : goal.invariant-loop-self
invariant-loop-self g l =
    let remaining = g.R.Read.remaining in record {
      bytes : Keeps (remaining l.fn.self.inner) (remaining l.self.inner);
      turns : l.self.turns ≤ l.fn.self.turns;
      failures : l.self.failures ≡ l.fn.self.failures;
    }

abbrev pub decreases-loop-self : goal.decreases-loop-self
decreases-loop-self g l = l.self.turns
