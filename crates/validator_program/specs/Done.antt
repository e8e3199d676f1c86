-- What the words ask for: that the instances are answered, or that the faults which a file lists are checked.
use Rattle.std.specs.Prelude.{ℕ, List, Option, Some, None, codes}
use Rattle.clap.specs.Words.{Row, first_of}
use Rattle.program_inputs.specs.Held.{Held}
use Rattle.validator_program.specs.Answered.{AnswersAll, StopsEarly}
use Rattle.validator_program.specs.Checked.{ChecksAll, StopsChecking}

abbrev pub DoesBy : Option (List ℕ) → List Row → (List ℕ → Held) → Option (List ℕ) → Option (List ℕ) → Option (List ℕ) → Option (List ℕ) → ℕ → Type 0
DoesBy None rows held from to before after status = AnswersAll rows held from to before after status
DoesBy (Some file) rows held from to before after status = ChecksAll file rows held from to before after status

abbrev pub BreaksOffBy : Option (List ℕ) → List Row → (List ℕ → Held) → Option (List ℕ) → Option (List ℕ) → Option (List ℕ) → Option (List ℕ) → Type 0
BreaksOffBy None rows held from to before after = StopsEarly rows held from to before after
BreaksOffBy (Some file) rows held from to before after = StopsChecking file rows held from to before after

-- the file is the one that `--check` names
abbrev pub Does : List Row → (List ℕ → Held) → Option (List ℕ) → Option (List ℕ) → Option (List ℕ) → Option (List ℕ) → ℕ → Type 0
Does rows held from to before after status = DoesBy (first_of (codes "check") rows) rows held from to before after status

abbrev pub BreaksOff : List Row → (List ℕ → Held) → Option (List ℕ) → Option (List ℕ) → Option (List ℕ) → Option (List ℕ) → Type 0
BreaksOff rows held from to before after = BreaksOffBy (first_of (codes "check") rows) rows held from to before after
