-- How far a run has come.
use Rattle.std.specs.Prelude.{◌≡◌, ℕ, List, [], ◌∷◌, ◌++◌, Bool, Option, false}
use Rattle.std.specs.Io.KnownBytes.{Appends, Consumes}
use Rattle.line_cuts.specs.Cuts.{ended_in, part_of}
use Rattle.line_cuts.specs.Runs.{Answered, Stops}
use Rattle.line_cuts.specs.declared.report.RunReport.{RunReport}
use Rattle.line_cuts.specs.declared.report.RunError.{RunError}

-- before any line
abbrev pub nothing_yet : RunReport
nothing_yet = record { lines = 0; any_refused = false }

-- of all lines the first were answered, and these are left; a part of the answers was written, and the text waits
pub record Goes (Q : List ℕ → Bool) (R : List ℕ → List ℕ → Type 0) (all left : List (List ℕ)) (old new : RunReport) (before after : Option (List ℕ)) (text : List ℕ) : Type 0 where
  pub lines : List (List ℕ)
  pub sent : List ℕ
  pub cut : all ≡ lines ++ left
  pub answered : Answered Q R lines old new (sent ++ text)
  pub appended : Appends before after sent

-- what waits is written up to this text
pub record Sends (before after : Option (List ℕ)) (old new : List ℕ) : Type 0 where
  pub sent : List ℕ
  pub whole : old ≡ sent ++ new
  pub appended : Appends before after sent

-- a line was answered behind a text
pub record Answers (Q : List ℕ → Bool) (R : List ℕ → List ℕ → Type 0) (line : List ℕ) (old new : RunReport) (before after : List ℕ) : Type 0 where
  pub written : List ℕ
  pub answered : Answered Q R (line ∷ []) old new written
  pub appended : after ≡ before ++ written

-- each line that ended in what was read is answered, and the answers are written; this part of a line is kept
pub record Reads (Q : List ℕ → Bool) (R : List ℕ → List ℕ → Type 0) (from to before after : Option (List ℕ)) (part : List ℕ) (report : RunReport) : Type 0 where
  pub input : List ℕ
  pub written : List ℕ
  pub read : Consumes from to input
  pub kept : part ≡ part_of input
  pub answered : Answered Q R (ended_in input) nothing_yet report written
  pub appended : Appends before after written

-- what was read and answered before stays so with what comes now
pub record ReadsOnward (Q : List ℕ → Bool) (R : List ℕ → List ℕ → Type 0) (to next after later : Option (List ℕ)) (part kept : List ℕ) (report newer : RunReport) : Type 0 where
  pub onward : (from before : Option (List ℕ)) → Reads Q R from to before after part report → Reads Q R from next before later kept newer

-- whatever was read and answered before, the run ends here with an error
pub record StopsOnward (Q : List ℕ → Bool) (R : List ℕ → List ℕ → Type 0) (e : RunError) (to next after later : Option (List ℕ)) (part : List ℕ) (report : RunReport) : Type 0 where
  pub onward : (from before : Option (List ℕ)) → Reads Q R from to before after part report → Stops R e from next before later
