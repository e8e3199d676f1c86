-- Laws on rows: what is wrong leads to no subschema and to no target.
use Rattle.std.specs.Prelude.{ℕ, ◌≡◌, List, [], Bool}
use Rattle.serde_json.specs.Data.{Data}
use Rattle.schema_meaning.specs.Members.{In}
use Rattle.schema_definitions.specs.Bearers.{Documents}
use Rattle.schema_definitions.specs.Sites.{Site}
use Rattle.schema_definitions.specs.Rows.{BuildCause, Row, Context, row_at, rows_at}

-- a keyword with a cause has no leads
abbrev pub WrongKeywordsLeadNowhere : Type 0
WrongKeywordsLeadNowhere = (x : Context) (k : List ℕ) (d : Data) (cause : BuildCause) → In cause (row_at x k d).causes → (row_at x k d).leads ≡ []

-- nor has any row with a cause, of all that stands at a site
abbrev pub WrongRowsLeadNowhere : Type 0
WrongRowsLeadNowhere = (docs : Documents) (makes : List ℕ → Bool) (s : Site) (row : Row) (cause : BuildCause)
    → In row (rows_at docs makes s) → In cause row.causes → row.leads ≡ []
