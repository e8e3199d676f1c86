-- What a run answers and writes. R relates a line and what is written for it, and Q says of that whether it tells of a refusal.
use Rattle.std.specs.Prelude.{◌≡◌, ℕ, List, [], ◌∷◌, ◌++◌, ◌+◌, ◌≤◌, ◌⊎◌, min, length, Bool, not, ◌||◌, Option}
use Rattle.std.specs.List.{AllZip, concat, list_any}
use Rattle.std.specs.Str.{bytes_eq}
use Rattle.std.specs.Io.KnownBytes.{Appends, Consumes, IsAtEnd}
use Rattle.line_cuts.specs.Devices.{most, IsRisen}
use Rattle.line_cuts.specs.Cuts.{ended_in, lines_of}
use Rattle.line_cuts.specs.declared.report.RunReport.{RunReport}
use Rattle.line_cuts.specs.declared.report.RunError.{RunError}
use Rattle.line_cuts.specs.declared.report.RunError.TheVariants.{Read, Write, Memory}

-- what is written for a line tells that its value is refused, or that it has none, where that is no empty list with a line end
abbrev pub is_refused : List ℕ → Bool
is_refused text = not (bytes_eq text (91 ∷ 93 ∷ 10 ∷ []))

-- some first bytes were taken
pub record TakesSome (old new : Option (List ℕ)) (bytes : List ℕ) : Type 0 where
  pub taken : List ℕ
  pub left : List ℕ
  pub whole : bytes ≡ taken ++ left
  pub appended : Appends old new taken

-- one text for each line, in order; the bytes are the texts joined, and the report counts them
pub record Answered (Q : List ℕ → Bool) (R : List ℕ → List ℕ → Type 0) (lines : List (List ℕ)) (old new : RunReport) (bytes : List ℕ) : Type 0 where
  pub texts : List (List ℕ)
  pub answered : AllZip R lines texts
  pub joined : bytes ≡ concat texts
  pub counted : old.lines ≤ most → new.lines ≡ min (old.lines + length texts) most
  pub refused : new.any_refused ≡ (old.any_refused || list_any Q texts)

-- some first lines were answered, and the bytes begin their texts joined
pub record Begins (R : List ℕ → List ℕ → Type 0) (lines : List (List ℕ)) (bytes : List ℕ) : Type 0 where
  pub done : List (List ℕ)
  pub rest : List (List ℕ)
  pub texts : List (List ℕ)
  pub tail : List ℕ
  pub first : lines ≡ done ++ rest
  pub answered : AllZip R done texts
  pub begun : concat texts ≡ bytes ++ tail

-- some first bytes of the answers to the first of these lines were written
pub record BreaksAt (R : List ℕ → List ℕ → Type 0) (lines : List (List ℕ)) (before after : Option (List ℕ)) : Type 0 where
  pub written : List ℕ
  pub begun : Begins R lines written
  pub appended : Appends before after written

-- each of these texts was answered, in order
pub record AnswersEach (Q : List ℕ → Bool) (R : List ℕ → List ℕ → Type 0) (lines : List (List ℕ)) (before after : Option (List ℕ)) (report : RunReport) : Type 0 where
  pub texts : List (List ℕ)
  pub answered : AllZip R lines texts
  pub appended : Appends before after (concat texts)
  pub counted : report.lines ≡ min (length texts) most
  pub refused : report.any_refused ≡ list_any Q texts

-- all that a reader had was read, and each of its lines answered
pub record RunsThroughBy (Q : List ℕ → Bool) (R : List ℕ → List ℕ → Type 0) (from to before after : Option (List ℕ)) (report : RunReport) : Type 0 where
  pub input : List ℕ
  pub texts : List (List ℕ)
  pub read : Consumes from to input
  pub ended : IsAtEnd to
  pub answered : AllZip R (lines_of input) texts
  pub appended : Appends before after (concat texts)
  pub counted : report.lines ≡ min (length texts) most
  pub refused : report.any_refused ≡ list_any Q texts

-- where an empty list is written for each line that is not refused
abbrev pub RunsThrough : (List ℕ → List ℕ → Type 0) → Option (List ℕ) → Option (List ℕ) → Option (List ℕ) → Option (List ℕ) → RunReport → Type 0
RunsThrough R = RunsThroughBy is_refused R

-- some bytes were read, and each line that ended in them answered
pub record ReadsOn (R : List ℕ → List ℕ → Type 0) (from to before after : Option (List ℕ)) : Type 0 where
  pub input : List ℕ
  pub texts : List (List ℕ)
  pub read : Consumes from to input
  pub answered : AllZip R (ended_in input) texts
  pub appended : Appends before after (concat texts)

-- the lines known where a reader stands: those that ended in what was read, and at its end the last one too
abbrev pub AreKnown : Option (List ℕ) → List ℕ → List (List ℕ) → Type 0
AreKnown to input lines = (lines ≡ ended_in input) ⊎ (IsAtEnd to × (lines ≡ lines_of input))

-- some bytes were read, and some first bytes of the answers to the first of the lines known then were written
pub record BreaksOff (R : List ℕ → List ℕ → Type 0) (from to before after : Option (List ℕ)) : Type 0 where
  pub input : List ℕ
  pub lines : List (List ℕ)
  pub read : Consumes from to input
  pub known : AreKnown to input lines
  pub breaks : BreaksAt R lines before after

-- a fact for each error
abbrev pub ByError : RunError → Type 0 → Type 0 → Type 0 → Type 0
ByError Read reads writes memory = reads
ByError Write reads writes memory = writes
ByError Memory reads writes memory = memory

-- where a run stands that ended with an error
abbrev pub Stops : (List ℕ → List ℕ → Type 0) → RunError → Option (List ℕ) → Option (List ℕ) → Option (List ℕ) → Option (List ℕ) → Type 0
Stops R e from to before after = ByError e (ReadsOn R from to before after) (BreaksOff R from to before after) (BreaksOff R from to before after)

-- which failures are counted at an error: the reader's, the writer's, or none
abbrev pub Counts : RunError → ℕ → ℕ → ℕ → ℕ → Type 0
Counts e reads reads_after writes writes_after = ByError e
    (IsRisen reads reads_after × (writes_after ≡ writes)) ((reads_after ≡ reads) × IsRisen writes writes_after) ((reads_after ≡ reads) × (writes_after ≡ writes))
