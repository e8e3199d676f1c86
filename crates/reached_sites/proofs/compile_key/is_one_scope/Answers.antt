use Rattle.referencing.specs.Keys.{key_of}
use Rattle.referencing.proofs.KeyLemmas.{keys_eq-Decides}
use Rattle.reached_sites.proofs.compile_key.is_one_scope.Goals as goal

pub returns : goal.returns
returns c = keys_eq-Decides (key_of c.args.one.now) (key_of c.args.other.now) c.eq.result c.eq.ensures
