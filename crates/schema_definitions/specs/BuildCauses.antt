-- Why a build refuses: the places reached from a root, and what is wrong at them.
use Rattle.std.specs.Prelude.{ℕ, List, ◌++◌, Bool}
use Rattle.std.specs.List.{flat_map}
use Rattle.schema_meaning.specs.Members.{In}
use Rattle.schema_definitions.specs.Bearers.{Documents}
use Rattle.schema_definitions.specs.Sites.{Site}
use Rattle.schema_definitions.specs.Rows.{BuildCause, Row, rows_at, identifier_causes}

-- the sites reached from a root: by the keywords that count and have no cause of their own
pub data Reached (docs : Documents) (makes : List ℕ → Bool) (root : Site) : Site → Type 0 where
  at_root : Reached docs makes root root
  by_keyword : {s : Site} (row : Row) (t : Site) → Reached docs makes root s → In row (rows_at docs makes s) → In t row.leads → Reached docs makes root t

-- what is wrong at a site: its identifier, and its keywords
abbrev pub causes_at : Documents → (List ℕ → Bool) → Site → List BuildCause
causes_at docs makes s = identifier_causes s ++ flat_map (λ r. r.causes) (rows_at docs makes s)

-- a cause at a reached site
pub record IsCauseOf (docs : Documents) (makes : List ℕ → Bool) (root : Site) (cause : BuildCause) : Type 0 where
  pub site : Site
  pub reached : Reached docs makes root site
  pub wrong : In cause (causes_at docs makes site)
