use Rattle.std.proofs.Common.{ap}
use Rattle.std.proofs.lemmas.Result.{IfOk-weaker}
use Rattle.fault_paths.specs.Texts.{text_left}
use Rattle.fault_checks.proofs.Going.{shorter_at}
use Rattle.fault_checks.proofs.WalkSteps.{ended}
use Rattle.fault_checks.proofs.stepping.step.Goals as goal

pub returns-in-None-clause-passes : goal.returns-in-None-clause-passes
returns-in-None-clause-passes c = ended c.args.walk c.ends_here.result (ap text_left c.in-None.is) c.ends_here.ensures.ends c.ends_here.ensures.only

pub by_name-requires : goal.by_name-requires
by_name-requires c = record { text = ap text_left c.in-Some.is }

pub returns-clause-shorter : goal.returns-clause-shorter
returns-clause-shorter c = IfOk-weaker c.by_name.result _ _ (λ st h. shorter_at st _ _ (ap text_left c.in-Some.is) h) c.by_name.ensures.shorter
