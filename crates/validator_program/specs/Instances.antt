-- The instances that are answered: the lines of a reader, or files that are one each.
use Rattle.std.specs.Prelude.{◌≡◌, ℕ, List, [], ◌∷◌, Option}
use Rattle.std.specs.List.{AllZip}
use Rattle.schema_patterns.specs.declared.matcher.PatternMatcher.{Ghosts}
use Rattle.line_cuts.specs.declared.report.RunReport.{RunReport}
use Rattle.line_cuts.specs.declared.report.RunError.{RunError}
use Rattle.line_runs.specs.Passed.{Root, Patterns, IsMadeBy, Validator}
use Rattle.program_inputs.specs.Held.{Held}
use Rattle.validator_program.specs.Given.{MayHold}
use Rattle.validator_program.specs.Outputs.{RunsUnder, StopsUnder, AnswersUnder, BreaksUnder}
use Rattle.validator_program.specs.declared.output.OutputForm.{OutputForm}

-- what the files of these names hold, in order
abbrev pub AreInstances : (List ℕ → Held) → List (List ℕ) → List (List ℕ) → Type 0
AreInstances held names instances = AllZip (λ name text. MayHold (held name) text) names instances

-- each file is answered as a whole, and the reader is not read
pub record AnswersFiles (form : OutputForm) (p : Patterns) (r : Root) (names : List (List ℕ)) (held : List ℕ → Held) (from to before after : Option (List ℕ)) (report : RunReport) : Type 0 where
  pub instances : List (List ℕ)
  pub hold : AreInstances held names instances
  pub unread : to ≡ from
  pub answered : AnswersUnder form p r instances before after report

-- the same as far as it came
pub record StopsAtFiles (form : OutputForm) (p : Patterns) (r : Root) (names : List (List ℕ)) (held : List ℕ → Held) (from to before after : Option (List ℕ)) : Type 0 where
  pub instances : List (List ℕ)
  pub hold : AreInstances held names instances
  pub unread : to ≡ from
  pub stopped : BreaksUnder form p r instances before after

-- where no file is named, each line of the reader is answered
abbrev pub AnswersNamed : OutputForm → Patterns → Root → List (List ℕ) → (List ℕ → Held) → Option (List ℕ) → Option (List ℕ) → Option (List ℕ) → Option (List ℕ) → RunReport → Type 0
AnswersNamed form p r [] held from to before after report = RunsUnder form p r from to before after report
AnswersNamed form p r (name ∷ names) held from to before after report = AnswersFiles form p r (name ∷ names) held from to before after report

abbrev pub StopsNamed : OutputForm → Patterns → Root → List (List ℕ) → (List ℕ → Held) → RunError → Option (List ℕ) → Option (List ℕ) → Option (List ℕ) → Option (List ℕ) → Type 0
StopsNamed form p r [] held e from to before after = StopsUnder form p r e from to before after
StopsNamed form p r (name ∷ names) held e from to before after = StopsAtFiles form p r (name ∷ names) held from to before after

-- under each root of which a validator was made
abbrev pub AnswersBy : {M : Type 0} {G : Ghosts M} → Validator M G → List (List ℕ) → (List ℕ → Held) → OutputForm → Option (List ℕ) → Option (List ℕ) → Option (List ℕ) → Option (List ℕ) → RunReport → Type 0
AnswersBy v names held form from to before after report = (p : Patterns) (r : Root) → IsMadeBy p r v → AnswersNamed form p r names held from to before after report

abbrev pub StopsSomewhereBy : {M : Type 0} {G : Ghosts M} → Validator M G → List (List ℕ) → (List ℕ → Held) → OutputForm → Option (List ℕ) → Option (List ℕ) → Option (List ℕ) → Option (List ℕ) → Type 0
StopsSomewhereBy v names held form from to before after =
    (e : RunError) × ((p : Patterns) (r : Root) → IsMadeBy p r v → StopsNamed form p r names held e from to before after)
