use Rattle.schema_reports.proofs.FaultLemmas.{told_before}
use Rattle.schema_reports.proofs.first_fault.FirstFault.wants.Goals as goal

pub returns-clause-enough : goal.returns-clause-enough
returns-clause-enough c = λ settled fs gs told. told_before c.args.self.now.error c.is_none.result c.is_none.ensures settled gs fs told
