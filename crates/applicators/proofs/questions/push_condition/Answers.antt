use Rattle.std.proofs.Common.{true, false}
use Rattle.applicators.proofs.ConsequentLemmas.{condition_asks}
use Rattle.applicators.proofs.questions.push_condition.Goals as goal

pub returns : goal.returns
returns c = λ site. condition_asks _ _ _ _ _ _ _ (c.in_ok-push.ensures site) (c.in_ok-push_consequent.ensures site true) (c.in_ok-push_consequent-2.ensures site false)
