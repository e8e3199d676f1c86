-- The shapes of the members of a schema, and the sites that they ask.
use Rattle.std.specs.Prelude.{ℕ, List, []}
use Rattle.std.specs.List.{flat_map}
use Rattle.serde_json.specs.Data.{Data, Members}
use Rattle.schema_meaning.specs.Keywords.{Shape}
use Rattle.schema_definitions.specs.Rows.{Context, row_at, rows_of}
use Rattle.schema_definitions.specs.Sites.{Site}
use Rattle.schema_sites.specs.Read.{leads_of, shapes_of}
use Rattle.schema_sites.specs.declared.keyword.Keyword.{Keyword}
use Rattle.schema_sites.specs.declared.keyword.Keyword.TheVariants as keyword
use Rattle.plain_reader.specs.Choices.{choice_leads}
use Rattle.plain_reader.specs.Settings.{Setting}

abbrev pub no_leads : Setting → List Site
no_leads x = []

abbrev pub context_in : Members → Setting → Context
context_in ms x = record { documents = x.documents; makes = x.makes; site = x.site; members = ms }

-- of these members of a schema
abbrev pub shapes_among : Members → Members → Setting → List (Shape Site)
shapes_among all ms x = flat_map (λ r. r.shapes) (rows_of (context_in all x) ms)

abbrev pub shapes_at : Members → List ℕ → Data → Setting → List (Shape Site)
shapes_at all k d x = (row_at (context_in all x) k d).shapes

-- of a keyword that the code has read: the sites that it asks, which are those that it leads to, and of `if` those of `then` and `else`
-- beside
abbrev pub keyword_leads : Keyword → Setting → List Site
keyword_leads keyword.Nothing x = []
keyword_leads (keyword.Assertion a) x = []
keyword_leads (keyword.Pattern p) x = []
keyword_leads (keyword.If schema then_schema else_schema) x = choice_leads schema then_schema else_schema x
keyword_leads (keyword.Consequent k schema) x = []
keyword_leads (keyword.Applicator a) x = leads_of x.documents x.site (keyword.Applicator a)
keyword_leads (keyword.Reference by text target) x = leads_of x.documents x.site (keyword.Reference by text target)

abbrev pub keyword_shapes : Keyword → Setting → List (Shape Site)
keyword_shapes k x = shapes_of x.documents x.site k
