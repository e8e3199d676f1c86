use Rattle.std.proofs.Common.{codes}
use Rattle.error_texts.proofs.Growing.{grows_behind}
use Rattle.error_texts.proofs.faults.write_pairs.Goals as goal

pub returns-in_err-write_pair-2-clause-grows : goal.returns-in_err-write_pair-2-clause-grows
returns-in_err-write_pair-2-clause-grows c =
    grows_behind c.args.text.now c.loop-pair.text c.push_str-in-loop-pair.new.self c.write_pair-in-loop-pair.new.text (codes ",") c.loop-pair.invariant.grows c.in_ok-push_str-2.ensures.bytes c.in_ok-push_str-2.ensures.capacity c.write_pair-in-loop-pair.ensures.grows
