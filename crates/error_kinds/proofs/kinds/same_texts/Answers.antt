use Rattle.std.proofs.Common.{string_bytes, bytes_eq, ◌∙◌}
use Rattle.schema_steps.proofs.EqualLemmas.{pointwise-map}
use Rattle.error_kinds.proofs.kinds.same_texts.Goals as goal

pub returns : goal.returns
returns c = c.eq.ensures ∙ pointwise-map string_bytes bytes_eq c.args.ones.now c.args.others.now
