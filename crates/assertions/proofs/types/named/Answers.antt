use Rattle.assertions.proofs.TypeLemmas.{by_name}
use Rattle.assertions.proofs.types.named.Goals as goal

pub returns : goal.returns
returns c = by_name c.args.name.now c.from_name.result c.from_name.ensures.some c.from_name.ensures.none
