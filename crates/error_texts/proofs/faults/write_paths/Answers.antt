use Rattle.std.proofs.Common.{arith}
use Rattle.json_pointers.proofs.GrowLemmas.{cut_back}
use Rattle.error_texts.proofs.faults.write_paths.Goals as goal

pub truncate-requires : goal.truncate-requires
truncate-requires c =
    λ _. cut_back c.args.text.now c.write_pairs.new.text c.len-start.result c.write_pairs.ensures.grows (omega (arith, c.args.text.now.bytes.ok.0))
