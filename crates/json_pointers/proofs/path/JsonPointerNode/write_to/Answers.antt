use Rattle.std.proofs.Common.{arith}
use Rattle.json_pointers.proofs.GrowLemmas.{cut_back}
use Rattle.json_pointers.proofs.path.JsonPointerNode.write_to.Goals as goal

pub truncate-requires : goal.truncate-requires
truncate-requires c =
    λ _. cut_back c.args.buffer.now c.push_to.new.buffer c.len-start.result c.push_to.ensures.grows (omega (arith, c.args.buffer.now.bytes.ok.0))
