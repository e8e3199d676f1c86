use Rattle.schema_reports.proofs.FaultLemmas.{still_one}
use Rattle.schema_reports.proofs.first_fault.FirstFault.is_settled.Goals as goal

pub returns : goal.returns
returns c = still_one c.args.self.now.error c.is_some.result c.is_some.ensures
