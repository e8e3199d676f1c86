use Rattle.std.proofs.Common.{arith}
use Rattle.json_pointers.proofs.GrowLemmas.{cut_back}
use Rattle.schema_steps.proofs.path.Path.write_to.Goals as goal

pub truncate-requires : goal.truncate-requires
truncate-requires c =
    λ _. cut_back c.args.buffer.now c.push_behind.new.buffer c.len-start.result c.push_behind.ensures.grows (omega (arith, c.args.buffer.now.bytes.ok.0))
