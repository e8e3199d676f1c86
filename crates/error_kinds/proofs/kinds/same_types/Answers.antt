use Rattle.std.proofs.Common.{ap₂, ◌∙◌}
use Rattle.error_kinds.specs.Faults.{same_types}
use Rattle.error_kinds.proofs.TypeLemmas.{types_are}
use Rattle.error_kinds.proofs.kinds.same_types.Goals as goal

pub returns : goal.returns
returns c = c.eq.ensures ∙ types_are c.as_slice.result.now c.as_slice-2.result.now ∙ ap₂ same_types c.as_slice.ensures c.as_slice-2.ensures
