use Rattle.document_laws.proofs.TargetsListed.{causeless_await_nothing}
use Rattle.document_laws.proofs.targets.causeless_await_nothing.Goals as goal

pub returns : goal.returns
returns c = causeless_await_nothing
