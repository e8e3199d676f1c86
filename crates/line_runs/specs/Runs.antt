-- What is written for lines under a root, in either form that stands by itself.
use Rattle.std.specs.Prelude.{◌≡◌, ◌∷◌, [], ◌++◌, ℕ, List}
use Rattle.std.specs.List.{AllZip}
use Rattle.schema_patterns.specs.declared.matcher.PatternMatcher.{Ghosts}
use Rattle.schema_validators.specs.Passed.{Root, Patterns}
use Rattle.schema_validators.specs.declared.validator.Validator.{Validator}
use Rattle.schema_definitions.specs.Lines.{line_value}
use Rattle.line_runs.specs.Forms.{IsLineTold, IsLineToldBy, IsCertainText}
use Rattle.line_runs.specs.declared.form.LineForm.TheVariants.{Pairs, Objects}

-- `null` where there is no value, and else the text of its faults under a root, and a line end
abbrev pub IsLineText : Patterns → Root → List ℕ → List ℕ → Type 0
IsLineText p r line written = IsLineTold Pairs p r line written

-- one text for each line, in order
abbrev pub AreTexts : Patterns → Root → List (List ℕ) → List (List ℕ) → Type 0
AreTexts p r lines texts = AllZip (IsLineText p r) lines texts

-- a reason where there is no value, and else an object of its faults under a root, and a line end
abbrev pub IsObjectLine : Patterns → Root → List ℕ → List ℕ → Type 0
IsObjectLine p r line written = IsLineTold Objects p r line written

-- ---- by a validator

-- the faults are those that its nodes tell, on every value, and so under each root of which it was made
abbrev pub IsLineTextBy : {M : Type 0} {G : Ghosts M} → Validator M G → List ℕ → List ℕ → Type 0
IsLineTextBy v line written = IsLineToldBy Pairs v line written

abbrev pub IsObjectLineBy : {M : Type 0} {G : Ghosts M} → Validator M G → List ℕ → List ℕ → Type 0
IsObjectLineBy v line written = IsLineToldBy Objects v line written

-- the faults are those that it tells however the matches that stay unfinished are answered
abbrev pub IsLineTextCertain : {M : Type 0} {G : Ghosts M} → Validator M G → List ℕ → List ℕ → Type 0
IsLineTextCertain v line written = (text : List ℕ) × IsCertainText v (line_value line) text × (written ≡ text ++ 10 ∷ [])
