-- The sites of the subschemas in the values of keywords.
use Rattle.std.specs.Prelude.{ℕ, suc, List, [], ◌∷◌, Bool, not, Option, None, Some}
use Rattle.std.specs.Borrow.{Bor}
use Rattle.std.specs.List.{filter}
use Rattle.serde_json.specs.Data.{Data, Items, no_items, item, Members, no_members, member}
use Rattle.serde_json.specs.View.{view, members_view}
use Rattle.json_values.specs.Parts.{Part}
use Rattle.schema_definitions.specs.Sites.{Site}
use Rattle.schema_definitions.specs.Rows.{member_names, in_list}
use Rattle.schema_meaning.specs.Questions.{at, at_name, at_index, Declared, is_declared}
use Rattle.schema_meaning.specs.Keywords.{Dependency, needs, applies}
use Rattle.assertions.specs.Texts.{texts_of}
use Rattle.applicators.specs.Lent as lent
use Rattle.applicators.specs.declared.subschema.Entry.{Entry}
use Rattle.applicators.specs.declared.subschema.Entry.TheVariants as entry
use Rattle.applicators.specs.declared.subschema.Subschema.{Subschema}

-- the parts from a schema to a subschema at a keyword, last part first
abbrev pub added_at : List ℕ → Entry → List Part
added_at k entry.Whole = at k
added_at k (entry.Name n) = at_name k n.now
added_at k (entry.Index i) = at_index k i

-- the site of a subschema, where `site` gives that of a schema below by the parts to it and the schema
abbrev pub place_of : (List Part → Data → Site) → Subschema → Site
place_of site b = site (added_at b.keyword.now b.entry) (view b.schema.now)

-- those of a list of schemas, the first of which has index i
abbrev pub sites_of_list : (List Part → Data → Site) → List ℕ → ℕ → Items → List Site
sites_of_list site k i no_items = []
sites_of_list site k i (item d ds) = site (at_index k i) d ∷ sites_of_list site k (suc i) ds

-- those of an object of schemas, with their names
abbrev pub sites_of_map : (List Part → Data → Site) → List ℕ → Members → List (List ℕ × Site)
sites_of_map site k no_members = []
sites_of_map site k (member n d ms) = (n, site (at_name k n) d) ∷ sites_of_map site k ms

-- an entry of `dependencies`: the texts of a list, or a schema
abbrev pub dependency_at : (List Part → Data → Site) → List ℕ → List ℕ → Data → Dependency Site
dependency_at site k n d = in_list (λ ds. needs (texts_of ds)) (applies (site (at_name k n) d)) d

abbrev pub dependencies_in : (List Part → Data → Site) → List ℕ → Members → List (List ℕ × Dependency Site)
dependencies_in site k no_members = []
dependencies_in site k (member n d ms) = (n, dependency_at site k n d) ∷ dependencies_in site k ms

abbrev pub site_of : (List Part → Data → Site) → List ℕ → Data → Site
site_of site k d = site (at k) d

-- the names of the members of an object that may stand beside
abbrev pub names_declared : Option (Bor lent.Schemas) → List (List ℕ)
names_declared None = []
names_declared (Some schemas) = member_names (members_view schemas.now.entries)

-- what `properties` and `patternProperties` beside declare: names, and patterns
abbrev pub declared_by : lent.Declared → Declared
declared_by declared = record { names = names_declared declared.names; patterns = names_declared declared.patterns }

-- the members that are not declared
abbrev pub others_among : (List ℕ → List ℕ → Bool) → Declared → List (List ℕ × Data) → List (List ℕ × Data)
others_among matches declared ms = filter (λ m. not (is_declared matches declared m.0)) ms
