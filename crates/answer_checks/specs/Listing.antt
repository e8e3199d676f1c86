-- The faults that some bytes list, a line for each instance, checked.
use Rattle.std.specs.Prelude.{◌≡◌, ℕ, List, [], ◌∷◌, Option, length, ◌⊎◌}
use Rattle.std.specs.List.{zip}
use Rattle.std.specs.Io.KnownBytes.{Consumes, IsAtEnd}
use Rattle.line_cuts.specs.Cuts.{lines_of}
use Rattle.line_cuts.specs.Devices.{IsRisen}
use Rattle.line_cuts.specs.Runs.{ByError, Counts}
use Rattle.line_cuts.specs.declared.report.RunReport.{RunReport}
use Rattle.schema_registries.specs.Roots.{Patterns, Root}
use Rattle.answer_checks.specs.Checks.{IsPairChecked}
use Rattle.answer_checks.specs.Written.{BreaksChecks, WritesChecks}
use Rattle.answer_checks.specs.declared.given.CheckError.{CheckError}
use Rattle.answer_checks.specs.declared.given.CheckError.TheVariants.{Count, Run}

-- there are as many lines as instances, and what each lists for the instance at its place is checked
pub record ChecksTexts (p : Patterns) (r : Root) (instances : List (List ℕ)) (listed : List ℕ) (before after : Option (List ℕ)) (report : RunReport) : Type 0 where
  pub as_many : length instances ≡ length (lines_of listed)
  pub written : WritesChecks (IsPairChecked p r) (zip instances (lines_of listed)) before after report

-- there are not as many, and nothing is written
pub record AreNotAsMany (n m : ℕ) (instances : List (List ℕ)) (listed : List ℕ) (before after : Option (List ℕ)) : Type 0 where
  pub instances_are : n ≡ length instances
  pub lines_are : m ≡ length (lines_of listed)
  pub differ : n ≡ m → ⊥
  pub unwritten : after ≡ before

-- at an error: that, or some first are checked
abbrev pub StopsTexts : CheckError → Patterns → Root → List (List ℕ) → List ℕ → Option (List ℕ) → Option (List ℕ) → Type 0
StopsTexts (Count n m) p r instances listed before after = AreNotAsMany n m instances listed before after
StopsTexts (Run e) p r instances listed before after = BreaksChecks (IsPairChecked p r) (zip instances (lines_of listed)) before after

-- ---- the lines of a reader

-- all that it had was read, and the instances are its lines
pub record ChecksSource (p : Patterns) (r : Root) (listed : List ℕ) (from to before after : Option (List ℕ)) (report : RunReport) : Type 0 where
  pub input : List ℕ
  pub read : Consumes from to input
  pub ended : IsAtEnd to
  pub checked : ChecksTexts p r (lines_of input) listed before after report

-- it is one of a run
abbrev pub IsOfRun : CheckError → Type 0
IsOfRun (Count n m) = ⊥
IsOfRun (Run e) = Unit {0}

-- an error of a run before any check: some of it was read and nothing is written; or all of it was read, and the checks ended with an error
pub record StopsSource (e : CheckError) (p : Patterns) (r : Root) (listed : List ℕ) (from to before after : Option (List ℕ)) : Type 0 where
  pub input : List ℕ
  pub read : Consumes from to input
  pub stopped : (IsOfRun e × (after ≡ before)) ⊎ (IsAtEnd to × StopsTexts e p r (lines_of input) listed before after)

-- ---- texts that are given, or else the lines of a reader, which is not read where texts are given

abbrev pub ChecksGiven : Patterns → Root → List ℕ → List (List ℕ) → Option (List ℕ) → Option (List ℕ) → Option (List ℕ) → Option (List ℕ) → RunReport → Type 0
ChecksGiven p r listed [] from to before after report = ChecksSource p r listed from to before after report
ChecksGiven p r listed (text ∷ texts) from to before after report = (to ≡ from) × ChecksTexts p r (text ∷ texts) listed before after report

abbrev pub StopsGiven : CheckError → Patterns → Root → List ℕ → List (List ℕ) → Option (List ℕ) → Option (List ℕ) → Option (List ℕ) → Option (List ℕ) → Type 0
StopsGiven e p r listed [] from to before after = StopsSource e p r listed from to before after
StopsGiven e p r listed (text ∷ texts) from to before after = (to ≡ from) × StopsTexts e p r (text ∷ texts) listed before after

-- ---- which failures are counted at an error

-- where nothing is read: one more of the writer where a write failed, else none
abbrev pub CountsWrites : CheckError → ℕ → ℕ → Type 0
CountsWrites (Count n m) writes writes_after = writes_after ≡ writes
CountsWrites (Run e) writes writes_after = ByError e ⊥ (IsRisen writes writes_after) (writes_after ≡ writes)

-- where a reader is read: the reader's, the writer's, or none
abbrev pub CountsSource : CheckError → ℕ → ℕ → ℕ → ℕ → Type 0
CountsSource (Count n m) reads reads_after writes writes_after = (reads_after ≡ reads) × (writes_after ≡ writes)
CountsSource (Run e) reads reads_after writes writes_after = Counts e reads reads_after writes writes_after

-- where texts are given, the reader has as many failures as before
abbrev pub CountsGiven : CheckError → List (List ℕ) → ℕ → ℕ → ℕ → ℕ → Type 0
CountsGiven e [] reads reads_after writes writes_after = CountsSource e reads reads_after writes writes_after
CountsGiven e (text ∷ texts) reads reads_after writes writes_after =
    (reads_after ≡ reads) × CountsWrites e writes writes_after
