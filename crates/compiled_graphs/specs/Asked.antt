-- The sites that a keyword asks: those that it leads to, and behind an `if` those beside it.
use Rattle.std.specs.Prelude.{◌≡◌, List, [], ◌∷◌, ◌++◌, ℕ, codes, true, Option, Some, None}
use Rattle.std.specs.Borrow.{Bor}
use Rattle.std.specs.List.{flat_map}
use Rattle.serde_json.specs.View.{view}
use Rattle.schema_definitions.specs.Bearers.{Documents}
use Rattle.schema_definitions.specs.Sites.{Site}
use Rattle.schema_definitions.specs.Rows.{Row}
use Rattle.schema_definitions.specs.Words.{listed}
use Rattle.schema_meaning.specs.Keywords.{Shape, condition}
use Rattle.applicators.specs.Combined.{is_by_answers}
use Rattle.schema_sites.specs.Read.{site_at, leads_of}
use Rattle.schema_sites.specs.declared.keyword.Keyword.{Keyword}
use Rattle.schema_sites.specs.declared.keyword.Keyword.TheVariants.{Nothing, Assertion, Pattern, If, Consequent, Applicator, Reference}
use Rattle.serde_json.specs.declared.value.Value.{Value}

-- the site of a schema beside, if there is one
abbrev pub site_beside : Documents → Site → List ℕ → Option (Bor Value) → List Site
site_beside docs s k None = []
site_beside docs s k (Some schema) = site_at docs s k (view schema.now) ∷ []

abbrev pub beside_of : Documents → Site → Keyword → List Site
beside_of docs s Nothing = []
beside_of docs s (Assertion a) = []
beside_of docs s (Pattern p) = []
beside_of docs s (If schema then_schema else_schema) = site_beside docs s (codes "then") then_schema ++ site_beside docs s (codes "else") else_schema
beside_of docs s (Consequent k schema) = []
beside_of docs s (Applicator a) = []
beside_of docs s (Reference keyword text target) = []

abbrev pub asked_by : Documents → Site → Keyword → List Site
asked_by docs s k = leads_of docs s k ++ beside_of docs s k

-- a keyword by its answers: an applicator asks no condition, which is a keyword of its own
abbrev pub IsAnswered : Keyword → Type 0
IsAnswered (Applicator a) = is_by_answers a ≡ true
IsAnswered k = Unit {0}

-- ---- in the meaning's words

-- the schemas beside an `if`
abbrev pub beside_if : Shape Site → List Site
beside_if (condition s then_site else_site) = listed then_site ++ listed else_site
beside_if shape = []

abbrev pub asked_in_row : List Site → List (Shape Site) → List Site
asked_in_row [] shapes = []
asked_in_row (s ∷ ss) shapes = (s ∷ ss) ++ flat_map beside_if shapes

-- the sites that rows ask, in order: those that each leads to, and behind an `if` those of `then` and `else`, which lead there too
abbrev pub asked_in : List Row → List Site
asked_in rows = flat_map (λ r. asked_in_row r.leads r.shapes) rows
