-- The sites of the plain reading that the code's stand for.
use Rattle.std.specs.Prelude.{◌≡◌, ℕ, List, Bool}
use Rattle.serde_json.specs.Data.{Data}
use Rattle.json_values.specs.Pointers.{escape}
use Rattle.std.specs.List.{AllByRecursion}
use Rattle.schema_meaning.specs.Members.{In}
use Rattle.schema_meaning.specs.Places.{whole}
use Rattle.schema_meaning.specs.Keywords.{Shape}
use Rattle.schema_meaning.specs.Readings.{Reading}
use Rattle.schema_meaning.specs.Circular.{IsCircular}
use Rattle.schema_definitions.specs.Bearers.{Documents}
use Rattle.schema_definitions.specs.Sites.{Site}
use Rattle.schema_definitions.specs.Plain.{plain}
use Rattle.schema_definitions.specs.Rows.{BuildCause, Row, rows_at}
use Rattle.schema_definitions.specs.BuildCauses.{IsCauseOf}
use Rattle.schema_patterns.specs.Read.{reads}
use Rattle.plain_reader.specs.Passed.{scope_of}
use Rattle.plain_reader.specs.Passed.{documents_at, Stands}
use Rattle.plain_reader.specs.Passed as code
use Rattle.certificate_laws.specs.Words.{Bears}

-- the documents, and how patterns are made and matched
pub record Scene : Type 0 where
  pub documents : Documents
  pub makes : List ℕ → Bool
  pub matches : List ℕ → List ℕ → Bool

abbrev pub reading_of : Scene → Reading Site
reading_of x = plain x.documents x.makes x.matches

-- nothing is wrong at the schemas reached from a site
pub record IsRight (x : Scene) (s : Site) : Type 0 where
  pub none : (cause : BuildCause) → IsCauseOf x.documents x.makes s cause → ⊥

-- a site of the plain reading that the code's stands for, by the matches that were read
pub record Meets (c : code.Site) (x : Scene) (s : Site) : Type 0 where
  pub documents : x.documents ≡ documents_at c
  pub stands : Stands c s
  pub scope : s.scope ≡ scope_of c.resolver
  pub matches : x.matches ≡ reads c.matches.now
  pub right : IsRight x s

-- no references come back below it
abbrev pub IsStraight : Scene → Site → Data → Type 0
IsStraight x s d = IsCircular (reading_of x) s (whole d) → ⊥

-- a row of the site, of a keyword that may refuse under this name
pub record Stage (c : code.Site) (d : Data) (keyword : List ℕ) (row : Row) (x : Scene) (s : Site) : Type 0 where
  pub meets : Meets c x s
  pub straight : IsStraight x s d
  pub stands : In row (rows_at x.documents x.makes s)
  pub named : AllByRecursion (Bears keyword) row.shapes
  pub plain : (shape : Shape Site) → In shape row.shapes → escape keyword ≡ keyword
