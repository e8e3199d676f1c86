use Rattle.std.proofs.Common.{take}
use Rattle.std.specs.List.{All}
use Rattle.schema_validators.specs.RefusedTexts.{IsNotOf}
use Rattle.schema_validators.proofs.refused_texts.first_of.Given as goal

abbrev pub invariant-loop-cause : goal.invariant-loop-cause
invariant-loop-cause l = All (IsNotOf l.error) (take l.cause-index l.causes)
