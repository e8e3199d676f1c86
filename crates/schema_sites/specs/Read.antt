-- What the code's keywords stand for at a site.
use Rattle.std.specs.Prelude.{◌≡◌, ℕ, List, [], ◌∷◌, Bool, true, false, codes, option_map, Ok}
use Rattle.serde_json.specs.Data.{Data, Members}
use Rattle.serde_json.specs.View.{view}
use Rattle.json_values.specs.Parts.{Part, name}
use Rattle.schema_definitions.specs.Bearers.{Documents}
use Rattle.schema_meaning.specs.Keywords.{Shape, pattern, condition, reference}
use Rattle.schema_definitions.specs.Scopes.{entered_scope}
use Rattle.referencing.specs.Resolved.{base_of, scope_of, documents_in, target_in}
use Rattle.referencing.specs.declared.resolver.Resolved.{Resolved}
use Rattle.schema_definitions.specs.Sites.{Site, below, target_site}
use Rattle.schema_meaning.specs.Members.{In}
use Rattle.schema_definitions.specs.Rows.{Row, bad_pattern, reads, at, assertion, Context, place_at, counts_here, row_at}
use Rattle.assertions.specs.Shapes.{assertion_of}
use Rattle.applicators.specs.Shapes as applied
use Rattle.applicators.specs.Combined.{is_by_answers}
use Rattle.applicators.specs.Made.{is_made_by, AreMade}
use Rattle.applicators.specs.Made as making
use Rattle.applicator_reading.specs.Beside as beside
use Rattle.applicator_reading.specs.declared.neighbours.Neighbours.{Neighbours}
use Rattle.schema_sites.specs.Seen.{documents_at, Stands}
use Rattle.schema_sites.specs.References.{kind_of, looked_up, MayBe}
use Rattle.schema_sites.specs.declared.reference_keyword.ReferenceKeyword.{ReferenceKeyword}
use Rattle.schema_sites.specs.declared.site.Site as code
use Rattle.schema_sites.specs.declared.keyword.Keyword.{Keyword}
use Rattle.schema_sites.specs.declared.keyword.Keyword.TheVariants.{Nothing, Assertion, Pattern, If, Consequent, Applicator, Reference}

-- the site of a schema at a keyword
abbrev pub site_at : Documents → Site → List ℕ → Data → Site
site_at docs s k d = below docs s (at k) d

abbrev pub shapes_of : Documents → Site → Keyword → List (Shape Site)
shapes_of docs s Nothing = []
shapes_of docs s (Assertion a) = assertion (assertion_of a)
shapes_of docs s (Pattern p) = assertion (pattern p.now)
shapes_of docs s (If schema then_schema else_schema) =
    condition (site_at docs s (codes "if") (view schema.now)) (option_map (λ v. site_at docs s (codes "then") (view v.now)) then_schema)
    (option_map (λ v. site_at docs s (codes "else") (view v.now)) else_schema) ∷ []
shapes_of docs s (Consequent k schema) = []
shapes_of docs s (Applicator a) = applied.shape_of (below docs s) a ∷ []
shapes_of docs s (Reference keyword text target) = reference (kind_of keyword) (target_site s text.now (target_in target)) ∷ []

-- the sites of the schemas in the keyword's own value, or of its target: those of `then` and `else` are led to by these
abbrev pub leads_of : Documents → Site → Keyword → List Site
leads_of docs s Nothing = []
leads_of docs s (Assertion a) = []
leads_of docs s (Pattern p) = []
leads_of docs s (If schema then_schema else_schema) = site_at docs s (codes "if") (view schema.now) ∷ []
leads_of docs s (Consequent k schema) = site_at docs s k.now (view schema.now) ∷ []
leads_of docs s (Applicator a) = applied.leads_of (below docs s) a
leads_of docs s (Reference keyword text target) = target_site s text.now (target_in target) ∷ []

abbrev pub row_of : Documents → Site → Keyword → Row
row_of docs s k = reads (leads_of docs s k) (shapes_of docs s k)

-- the patterns that have to be made for a keyword to be read
abbrev pub patterns_in : Keyword → List (List ℕ)
patterns_in Nothing = []
patterns_in (Assertion a) = []
patterns_in (Pattern p) = p.now ∷ []
patterns_in (If schema then_schema else_schema) = []
patterns_in (Consequent k schema) = []
patterns_in (Applicator a) = making.patterns_in a
patterns_in (Reference keyword text target) = []

-- where one of them stands, from the schema of the member on: at the keyword `pattern`, or at a name in the value
abbrev pub pattern_parts : Keyword → List ℕ → List ℕ → List Part
pattern_parts Nothing k p = name p ∷ name k ∷ []
pattern_parts (Assertion a) k p = name p ∷ name k ∷ []
pattern_parts (Pattern text) k p = name k ∷ []
pattern_parts (If schema then_schema else_schema) k p = name p ∷ name k ∷ []
pattern_parts (Consequent n schema) k p = name p ∷ name k ∷ []
pattern_parts (Applicator a) k p = name p ∷ name k ∷ []
pattern_parts (Reference keyword text target) k p = name p ∷ name k ∷ []

-- the row of a member of that name: the keyword's where its patterns are made; else each that is not is a cause
pub record IsRowOf (x : Context) (n : List ℕ) (row : Row) (k : Keyword) : Type 0 where
  pub made : AreMade x.makes (patterns_in k) → row ≡ row_of x.documents x.site k
  pub right : row.causes ≡ [] → AreMade x.makes (patterns_in k)
  pub bad : (p : List ℕ) → In p (patterns_in k) → is_made_by x.makes p ≡ false → In (bad_pattern (place_at x (pattern_parts k n p))) row.causes

-- what a member of a site's schema is read in
abbrev pub context_at : code.Site → Members → (List ℕ → Bool) → Site → Context
context_at c ms makes s = record { documents = documents_at c; makes = makes; site = s; members = ms }

-- a context of the code's site, with its scope, and of the members of its schema
pub record Surrounds (c : code.Site) (ms : Members) (x : Context) : Type 0 where
  pub documents : x.documents ≡ documents_at c
  pub members : x.members ≡ ms
  pub stands : Stands c x.site
  pub scope : x.site.scope ≡ scope_of c.resolver

-- the row that a member has in each of these
abbrev pub ReadAs : code.Site → Members → List ℕ → (Context → Row) → Keyword → Type 0
ReadAs c ms n row k = (x : Context) → Surrounds c ms x → IsRowOf x n (row x) k

-- the row that a member has beside these neighbours
abbrev pub ReadBeside : Neighbours → List ℕ → (Context → Row) → Keyword → Type 0
ReadBeside n k row w = (x : Context) → beside.Surrounds n x → IsRowOf x k (row x) w

-- where its name counts
abbrev pub ReadCounted : Neighbours → List ℕ → Data → Keyword → Type 0
ReadCounted n k d w = (x : Context) → beside.Surrounds n x → counts_here x k ≡ true → IsRowOf x k (row_at x k d) w

-- what a reference at a site leads to
pub record FindsTarget (c : code.Site) (keyword : ReferenceKeyword) (text : List ℕ) (target : Resolved) : Type 0 where
  pub found : looked_up keyword (documents_at c) (base_of c.resolver) (scope_of c.resolver) text ≡ Ok (target_in target)
  pub may_be : MayBe keyword text
  pub documents : documents_in target.resolver ≡ documents_in c.resolver
  pub scope : scope_of target.resolver ≡ entered_scope (base_of target.resolver) (base_of c.resolver) (scope_of c.resolver)

-- where a keyword's subschemas lie: in its value; how its verdict is made; and what its reference leads to
abbrev pub Finds : code.Site → Data → Keyword → Type 0
Finds c d Nothing = Unit {0}
Finds c d (Assertion a) = Unit {0}
Finds c d (Pattern p) = Unit {0}
Finds c d (If schema then_schema else_schema) = d ≡ view schema.now
Finds c d (Consequent k schema) = d ≡ view schema.now
Finds c d (Applicator a) = is_by_answers a ≡ true
Finds c d (Reference keyword text target) = FindsTarget c keyword text.now target
