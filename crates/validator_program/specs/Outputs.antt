-- The forms of what is written for a line.
use Rattle.std.specs.Prelude.{◌≡◌, ℕ, List, if◌then◌else◌, bytes_eq, Option, Some, None, codes}
use Rattle.schema_patterns.specs.declared.matcher.PatternMatcher.{Ghosts}
use Rattle.line_cuts.specs.Runs.{AnswersEach, BreaksAt, RunsThroughBy, Stops}
use Rattle.line_cuts.specs.declared.report.RunReport.{RunReport}
use Rattle.line_cuts.specs.declared.report.RunError.{RunError}
use Rattle.line_runs.specs.Forms.{IsLineTold, refuses_in}
use Rattle.line_runs.specs.Passed.{Root, Patterns, IsMadeBy, Validator}
use Rattle.line_runs.specs.declared.form.LineForm.TheVariants.{Pairs, Objects, Sentences}
use Rattle.validator_program.specs.declared.output.OutputForm.{OutputForm}
use Rattle.validator_program.specs.declared.output.OutputForm.TheVariants.{Lines, Nothing}

-- the form that a word names: pairs where there is no word
abbrev pub form_of : Option (List ℕ) → Option OutputForm
form_of None = Some (Lines Pairs)
form_of (Some word) =
    if bytes_eq word (codes "pairs") then Some (Lines Pairs)
    else (if bytes_eq word (codes "json") then Some (Lines Objects)
    else (if bytes_eq word (codes "text") then Some (Lines Sentences)
    else (if bytes_eq word (codes "none") then Some Nothing else None)))

-- each line is answered by a root in this form; where nothing is written, as if its pairs were, and written nowhere
abbrev pub RunsUnder : OutputForm → Patterns → Root → Option (List ℕ) → Option (List ℕ) → Option (List ℕ) → Option (List ℕ) → RunReport → Type 0
RunsUnder (Lines form) p r from to before after report = RunsThroughBy (refuses_in form) (IsLineTold form p r) from to before after report
RunsUnder Nothing p r from to before after report = (after ≡ before) × RunsThroughBy (refuses_in Pairs) (IsLineTold Pairs p r) from to None None report

abbrev pub StopsUnder : OutputForm → Patterns → Root → RunError → Option (List ℕ) → Option (List ℕ) → Option (List ℕ) → Option (List ℕ) → Type 0
StopsUnder (Lines form) p r e from to before after = Stops (IsLineTold form p r) e from to before after
StopsUnder Nothing p r e from to before after = (after ≡ before) × Stops (IsLineTold Pairs p r) e from to None None

-- and each of these texts as a whole
abbrev pub AnswersUnder : OutputForm → Patterns → Root → List (List ℕ) → Option (List ℕ) → Option (List ℕ) → RunReport → Type 0
AnswersUnder (Lines form) p r instances before after report = AnswersEach (refuses_in form) (IsLineTold form p r) instances before after report
AnswersUnder Nothing p r instances before after report = (after ≡ before) × AnswersEach (refuses_in Pairs) (IsLineTold Pairs p r) instances None None report

abbrev pub BreaksUnder : OutputForm → Patterns → Root → List (List ℕ) → Option (List ℕ) → Option (List ℕ) → Type 0
BreaksUnder (Lines form) p r instances before after = BreaksAt (IsLineTold form p r) instances before after
BreaksUnder Nothing p r instances before after = (after ≡ before) × BreaksAt (IsLineTold Pairs p r) instances None None

-- under each root of which a validator was made
abbrev pub RunsBy : {M : Type 0} {G : Ghosts M} → Validator M G → OutputForm → Option (List ℕ) → Option (List ℕ) → Option (List ℕ) → Option (List ℕ) → RunReport → Type 0
RunsBy v form from to before after report = (p : Patterns) (r : Root) → IsMadeBy p r v → RunsUnder form p r from to before after report

abbrev pub StopsBy : {M : Type 0} {G : Ghosts M} → Validator M G → OutputForm → RunError → Option (List ℕ) → Option (List ℕ) → Option (List ℕ) → Option (List ℕ) → Type 0
StopsBy v form e from to before after = (p : Patterns) (r : Root) → IsMadeBy p r v → StopsUnder form p r e from to before after

abbrev pub AnswersEachBy : {M : Type 0} {G : Ghosts M} → Validator M G → OutputForm → List (List ℕ) → Option (List ℕ) → Option (List ℕ) → RunReport → Type 0
AnswersEachBy v form instances before after report = (p : Patterns) (r : Root) → IsMadeBy p r v → AnswersUnder form p r instances before after report

abbrev pub BreaksBy : {M : Type 0} {G : Ghosts M} → Validator M G → OutputForm → List (List ℕ) → Option (List ℕ) → Option (List ℕ) → Type 0
BreaksBy v form instances before after = (p : Patterns) (r : Root) → IsMadeBy p r v → BreaksUnder form p r instances before after
