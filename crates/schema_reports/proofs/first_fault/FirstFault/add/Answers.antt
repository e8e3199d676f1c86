use Rattle.std.proofs.Common.{refl}
use Rattle.schema_meaning.specs.Faults.{also, none}
use Rattle.schema_reports.specs.Told.{fault_of}
use Rattle.schema_reports.proofs.FaultLemmas.{told_now, told_before}
use Rattle.schema_reports.proofs.first_fault.FirstFault.add.Goals as goal

pub returns-in_ok-keep : goal.returns-in_ok-keep
returns-in_ok-keep c = λ proper fs told.
    c.in_ok-keep.ensures _ (told_now c.args.self.now.error c.is_none.result c.is_none.ensures c.if-is_none.true c.args.error (fault_of c.args.error) refl proper fs told)

pub returns-else-is_none : goal.returns-else-is_none
returns-else-is_none c = λ proper.
    told_before c.args.self.now.error c.is_none.result c.is_none.ensures c.if-is_none.false (also (fault_of c.args.error) none)
