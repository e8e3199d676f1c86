use Rattle.std.proofs.Common.{inl, inr, refl}
use Rattle.clap.specs.Walk.{texts}
use Rattle.validator_program.proofs.entry.by_words.Goals as goal

pub returns-in-Ok-clause-stopped : goal.returns-in-Ok-clause-stopped
returns-in-Ok-clause-stopped g c = λ three. elim (c.program.ensures.stopped three) [
  | inl same ↦ inl same
  | inr stops ↦ inr (texts c.as_slice.result.now, stops)
]

pub returns-in-Err-clause-stopped : goal.returns-in-Err-clause-stopped
returns-in-Err-clause-stopped g c = λ three. inl (refl, refl)
