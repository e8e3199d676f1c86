-- What `if` asks: its own schema, and then of those beside the one that the answer chooses.
use Rattle.std.specs.Prelude.{◌<◌, ℕ, List, [], ◌∷◌, ◌++◌, Bool, true, false, codes, Option, Some, None, IfSome}
use Rattle.std.specs.Borrow.{Bor}
use Rattle.serde_json.specs.Data.{depth}
use Rattle.serde_json.specs.View.{view}
use Rattle.serde_json.specs.declared.value.Value.{Value}
use Rattle.schema_meaning.specs.Questions as told
use Rattle.schema_meaning.specs.Keywords.{Shape}
use Rattle.schema_definitions.specs.Sites.{Site}
use Rattle.applicators.specs.declared.question.Asked.TheVariants as asked
use Rattle.applicators.specs.declared.question.Question.{Question}
use Rattle.applicators.specs.declared.subschema.Entry.TheVariants as entry
use Rattle.schema_sites.specs.Read.{shapes_of, site_at}
use Rattle.schema_sites.specs.declared.keyword.Keyword.TheVariants as keyword
use Rattle.schema_sites.specs.declared.site.Site as code
use Rattle.plain_reader.specs.Settings.{Setting}

-- whether a schema at a keyword accepts the value
abbrev pub asking : Bor (List ℕ) → Bor Value → Question
asking k schema = record { subschema = record { keyword = k; entry = entry.Whole; schema = schema }; asked = asked.Value }

-- the same at a setting's site
abbrev pub site_in : List ℕ → Bor Value → Setting → Site
site_in k schema x = site_at x.documents x.site k (view schema.now)

abbrev pub asks_at : List ℕ → Bor Value → Setting → told.Question Site
asks_at k schema x = told.here k (site_in k schema x)

-- if one stands there
abbrev pub beside_leads : List ℕ → Option (Bor Value) → Setting → List Site
beside_leads k None x = []
beside_leads k (Some schema) x = site_in k schema x ∷ []

abbrev pub beside_questions : List ℕ → Option (Bor Value) → Setting → List (told.Question Site)
beside_questions k None x = []
beside_questions k (Some schema) x = asks_at k schema x ∷ []

-- all that an `if` asks
abbrev pub choice_leads : Bor Value → Option (Bor Value) → Option (Bor Value) → Setting → List Site
choice_leads schema then_schema else_schema x = site_in (codes "if") schema x ∷ (beside_leads (codes "then") then_schema x ++ beside_leads (codes "else") else_schema x)

abbrev pub choice_shapes : Bor Value → Option (Bor Value) → Option (Bor Value) → Setting → List (Shape Site)
choice_shapes schema then_schema else_schema x = shapes_of x.documents x.site (keyword.If schema then_schema else_schema)

-- what the answer chooses
abbrev pub chosen_leads : Bool → Option (Bor Value) → Option (Bor Value) → Setting → List Site
chosen_leads true then_schema else_schema x = beside_leads (codes "then") then_schema x
chosen_leads false then_schema else_schema x = beside_leads (codes "else") else_schema x

abbrev pub chosen_questions : Bool → Option (Bor Value) → Option (Bor Value) → Setting → List (told.Question Site)
chosen_questions true then_schema else_schema x = beside_questions (codes "then") then_schema x
chosen_questions false then_schema else_schema x = beside_questions (codes "else") else_schema x

-- a schema is less deep than the one at the site
abbrev pub IsInside : code.Site → Bor Value → Type 0
IsInside c schema = depth (view schema.now) < depth (view c.contents.now)

pub record AreInside (c : code.Site) (then_schema else_schema : Option (Bor Value)) : Type 0 where
  pub chosen : IfSome then_schema (IsInside c)
  pub other : IfSome else_schema (IsInside c)
