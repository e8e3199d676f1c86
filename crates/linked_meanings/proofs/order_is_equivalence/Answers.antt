use Rattle.linked_meanings.proofs.OrderLemmas.{order_is_equivalence}
use Rattle.linked_meanings.proofs.order_is_equivalence.Goals as goal

pub returns : goal.returns
returns c = order_is_equivalence
