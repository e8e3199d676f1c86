use Rattle.schema_reports.proofs.FaultLemmas.{Absorbs}
use Rattle.schema_reports.proofs.all_faults.AllFaults.absorb.Given as goal

abbrev pub invariant-loop-error : goal.invariant-loop-error
invariant-loop-error l = Absorbs (λ hs. hs) l.fn.self.errors.items l.yielded l.self.errors.items
