use Rattle.linked_meanings.proofs.OrderLemmas.{order_tells_the_same}
use Rattle.linked_meanings.proofs.order_tells_the_same.Goals as goal

pub returns : goal.returns
returns c = order_tells_the_same
