use Rattle.std.proofs.Common.{inl, inr}
use Rattle.validator_program.proofs.Small.{apart}
use Rattle.validator_program.proofs.entry.program.Goals as goal

pub returns-in-Err-clause-refused : goal.returns-in-Err-clause-refused
returns-in-Err-clause-refused g c = λ two. elim c.in-Err.ensures.err [
  | inl same ↦ same
  | inr stops ↦ absurd (apart _ (c.told.ensures.refused two) stops.0)
]
