use Rattle.std.proofs.Common.{refl}
use Rattle.schema_reports.specs.Told.{fault_of}
use Rattle.schema_reports.proofs.FaultLemmas.{all_told}
use Rattle.schema_reports.proofs.all_faults.AllFaults.add.Goals as goal

pub returns : goal.returns
returns c = λ proper.
    all_told c.args.self.now.errors.items c.push.new.self.items c.args.error (fault_of c.args.error) c.in_ok-push.ensures.items refl proper
