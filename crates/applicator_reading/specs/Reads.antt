-- What a reading says of a member of a schema.
use Rattle.std.specs.Prelude.{◌≡◌, ℕ, List, [], ◌∷◌, true, false, Result, Ok, Err}
use Rattle.serde_json.specs.Data.{Data}
use Rattle.serde_json.specs.View.{view}
use Rattle.json_values.specs.Parts.{Part, name, index}
use Rattle.schema_meaning.specs.Members.{In}
use Rattle.schema_definitions.specs.Sites.{Site, below}
use Rattle.schema_definitions.specs.Rows.{Row, BuildCause, keyword_value, bad_pattern, Context, place_at, at, reads}
use Rattle.applicators.specs.Shapes.{shape_of, leads_of}
use Rattle.applicators.specs.Combined.{is_by_answers}
use Rattle.applicators.specs.Made.{is_made_by, AreMade, patterns_in}
use Rattle.applicators.specs.Applied.{Applicator}
use Rattle.applicator_reading.specs.declared.reading.Reading.{Reading}
use Rattle.applicator_reading.specs.declared.reading.Reading.TheVariants as reading

-- the site of a subschema
abbrev pub site_in : Context → List Part → Data → Site
site_in x added d = below x.documents x.site added d

-- a cause of a row that has no shapes
pub record IsCause (cause : BuildCause) (row : Row) : Type 0 where
  pub stands : In cause row.causes
  pub alone : row.shapes ≡ []

-- The row is that of what is applied where the keyword's patterns are made, and nothing is wrong there only where they are. A pattern that is
-- refused is a cause at its own place.
pub record AppliesAs (x : Context) (k : List ℕ) (row : Row) (a : Applicator) : Type 0 where
  pub made : AreMade x.makes (patterns_in a) → row ≡ reads (leads_of (site_in x) a) (shape_of (site_in x) a ∷ [])
  pub right : row.causes ≡ [] → AreMade x.makes (patterns_in a)
  pub bad : (p : List ℕ) → In p (patterns_in a) → is_made_by x.makes p ≡ false → In (bad_pattern (place_at x (name p ∷ name k ∷ []))) row.causes

-- what a reading says of the row of a keyword
abbrev pub ReadsAs : Context → List ℕ → Row → Reading → Type 0
ReadsAs x k row (reading.Applied a) = AppliesAs x k row a
ReadsAs x k row reading.Nothing = row ≡ reads [] []
ReadsAs x k row (reading.Consequent schema) = row ≡ reads (site_in x (at k) (view schema.now) ∷ []) []
ReadsAs x k row (reading.Value expected) = IsCause (keyword_value (place_at x (at k)) expected.now) row
ReadsAs x k row (reading.Entry n expected) = IsCause (keyword_value (place_at x (name n.now ∷ name k ∷ [])) expected.now) row
ReadsAs x k row (reading.Element i expected) = IsCause (keyword_value (place_at x (index i ∷ name k ∷ [])) expected.now) row

-- the verdict of what is applied is by the number of answers that are yes
abbrev pub IsByAnswers : Reading → Type 0
IsByAnswers (reading.Applied a) = is_by_answers a ≡ true
IsByAnswers reading.Nothing = Unit {0}
IsByAnswers (reading.Consequent schema) = ⊥
IsByAnswers (reading.Value expected) = Unit {0}
IsByAnswers (reading.Entry n expected) = Unit {0}
IsByAnswers (reading.Element i expected) = Unit {0}

-- schemas refused for that cause among others
abbrev pub IsRefusedFor : {A : Type 0} → BuildCause → Result A (List BuildCause) → Type 0
IsRefusedFor cause (Ok x) = ⊥
IsRefusedFor cause (Err causes) = In cause causes
