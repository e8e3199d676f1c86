-- The forms of what is written for lines.
use Rattle.std.specs.Prelude.{◌≡◌, ℕ, List, [], ◌∷◌, ◌++◌, Bool, true, not, bytes_eq, codes, Option, Some, None}
use Rattle.std.specs.List.{AllZip, concat}
use Rattle.serde_json.specs.Data.{Data}
use Rattle.schema_meaning.specs.Faults.{Faults}
use Rattle.schema_definitions.specs.Lines.{line_value, faults_text}
use Rattle.schema_patterns.specs.declared.matcher.PatternMatcher.{Ghosts}
use Rattle.schema_reports.specs.Told.{faults_of, are_proper}
use Rattle.schema_reports.specs.declared.error.ValidationError.{ValidationError}
use Rattle.error_texts.specs.Sentences.{IsSentence, reason_line}
use Rattle.line_cuts.specs.Runs.{is_refused}
use Rattle.schema_validators.specs.Passed.{Root, Patterns}
use Rattle.schema_validators.specs.Answered.{AreFaults}
use Rattle.schema_validators.specs.Made.{IsMadeBy}
use Rattle.schema_validators.specs.Told.{faults_by}
use Rattle.schema_validators.specs.ByNodes.{HasOpenBy, TellsBy}
use Rattle.schema_validators.specs.declared.validator.Validator.{Validator}
use Rattle.line_runs.specs.Objects.{IsObjectText, IsUnreadText, is_refused_object}
use Rattle.line_runs.specs.declared.form.LineForm.{LineForm}
use Rattle.line_runs.specs.declared.form.LineForm.TheVariants.{Pairs, Objects, Sentences}

-- a line for each of these faults, in order, under the label of the instance; each carries such values as its keyword has
pub record AreSentences (label : List ℕ) (fs : Faults) (text : List ℕ) : Type 0 where
  pub errors : List ValidationError
  pub lines : List (List ℕ)
  pub told : faults_of errors ≡ fs
  pub proper : are_proper errors ≡ true
  pub zipped : AllZip (IsSentence label) errors lines
  pub is_text : text ≡ concat lines

-- what is written for a value with these faults
abbrev pub Tells : LineForm → Faults → List ℕ → Type 0
Tells Pairs fs text = text ≡ faults_text fs
Tells Objects fs text = IsObjectText fs text
Tells Sentences fs text = (label : List ℕ) × AreSentences label fs text

-- and for a line that has no value
abbrev pub TellsNone : LineForm → List ℕ → Type 0
TellsNone Pairs text = text ≡ codes "null"
TellsNone Objects text = IsUnreadText text
TellsNone Sentences text = (label : List ℕ) × (reason : List ℕ) × (text ≡ reason_line label reason)

-- what stands behind it: a line end, where the form has none of its own
abbrev pub end_of : LineForm → List ℕ
end_of Pairs = 10 ∷ []
end_of Objects = 10 ∷ []
end_of Sentences = []

-- whether what is written tells of a refusal, or that there is no value
abbrev pub refuses_in : LineForm → List ℕ → Bool
refuses_in Pairs written = is_refused written
refuses_in Objects written = is_refused_object written
refuses_in Sentences written = not (bytes_eq written [])

-- for a value under a root, by the patterns of a maker: what is written for its faults
abbrev pub ValueTold : LineForm → Patterns → Root → Option Data → List ℕ → Type 0
ValueTold form p r None text = TellsNone form text
ValueTold form p r (Some d) text = (fs : Faults) × AreFaults p r d fs × Tells form fs text

-- for a line
abbrev pub IsLineTold : LineForm → Patterns → Root → List ℕ → List ℕ → Type 0
IsLineTold form p r line written = (text : List ℕ) × ValueTold form p r (line_value line) text × (written ≡ text ++ end_of form)

-- ---- by a validator

-- what is written for the faults that its nodes tell, on every value
abbrev pub NodesTold : {M : Type 0} {G : Ghosts M} → LineForm → Validator M G → Option Data → List ℕ → Type 0
NodesTold form v None text = TellsNone form text
NodesTold form v (Some d) text = Tells form (faults_by v d) text

-- and it is that under each root of which it was made
pub record IsToldBy {M : Type 0} {G : Ghosts M} (form : LineForm) (v : Validator M G) (value : Option Data) (text : List ℕ) : Type 0 where
  pub nodes : NodesTold form v value text
  pub root : (p : Patterns) (r : Root) → IsMadeBy p r v → ValueTold form p r value text

abbrev pub IsLineToldBy : {M : Type 0} {G : Ghosts M} → LineForm → Validator M G → List ℕ → List ℕ → Type 0
IsLineToldBy form v line written = (text : List ℕ) × IsToldBy form v (line_value line) text × (written ≡ text ++ end_of form)

-- ---- by a validator, where matches may stay unfinished

-- the faults that it tells however such matches are answered, which are those of its nodes where there are none
pub record AreCertain {M : Type 0} {G : Ghosts M} (v : Validator M G) (d : Data) (fs : Faults) : Type 0 where
  pub each : TellsBy v d fs
  pub nodes : (HasOpenBy v d → ⊥) → fs ≡ faults_by v d

abbrev pub CertainTold : {M : Type 0} {G : Ghosts M} → Validator M G → Option Data → List ℕ → Type 0
CertainTold v None text = text ≡ codes "null"
CertainTold v (Some d) text = (fs : Faults) × AreCertain v d fs × (text ≡ faults_text fs)

-- and it is the text of the faults under each root of which it was made
pub record IsCertainText {M : Type 0} {G : Ghosts M} (v : Validator M G) (value : Option Data) (text : List ℕ) : Type 0 where
  pub certain : CertainTold v value text
  pub root : (p : Patterns) (r : Root) → IsMadeBy p r v → ValueTold Pairs p r value text
