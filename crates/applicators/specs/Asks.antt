-- What keywords ask of a value, and what goes by it.
use Rattle.std.specs.Prelude.{ℕ, List, [], ◌∷◌, map, Bool, true, false, option_map, codes}
use Rattle.serde_json.specs.Data.{Data}
use Rattle.serde_json.specs.View.{view, items_view, members_view}
use Rattle.json_values.specs.Parts.{Part}
use Rattle.schema_definitions.specs.Rows.{sites_named, sites_applied, member_names}
use Rattle.schema_definitions.specs.Sites.{Site}
use Rattle.schema_meaning.specs.Faults.{Kind, AdditionalItems, AdditionalProperties, FalseSchema, Not}
use Rattle.schema_meaning.specs.Questions.{Question, members_of, other_members}
use Rattle.schema_meaning.specs.Rules.{Note}
use Rattle.schema_meaning.specs.Keywords.{first_value, missing_beside}
use Rattle.assertions.specs.Texts.{entries_of}
use Rattle.applicators.specs.Sites.{site_of, sites_of_list, sites_of_map, declared_by, dependencies_in}
use Rattle.applicators.specs.Forms.{Form, each_from, by_index, by_name, by_pattern, of_others, of_members, of_names, of_triggered, of_dependencies, of_branches, of_value, of_condition, asked}
use Rattle.applicators.specs.Lent.{Asks}
use Rattle.applicators.specs.declared.asks.AsksOf.{AsksOf}
use Rattle.applicators.specs.declared.asks.AsksOf.TheVariants as code

-- what is asked by the sites of its schemas, at a keyword of this name; `site` gives the site of a schema below
abbrev pub form_by : (List Part → Data → Site) → List ℕ → Asks → Form Site
form_by site k (code.ItemsFrom start schema) = each_from start (site_of site k (view schema.now))
form_by site k (code.ItemByItem schemas) = by_index (sites_of_list site k 0 (items_view schemas.now))
form_by site k (code.DeclaredMembers schemas) = by_name (sites_of_map site k (members_view schemas.now.entries))
form_by site k (code.MatchingMembers schemas) = by_pattern (sites_of_map site k (members_view schemas.now.entries))
form_by site k (code.OtherMembers declared schema) = of_others (declared_by declared) (site_of site k (view schema.now))
form_by site k (code.Members schema) = of_members (site_of site k (view schema.now))
form_by site k (code.Names schema) = of_names (site_of site k (view schema.now))
form_by site k (code.Triggered schemas) = of_triggered (sites_of_map site k (members_view schemas.now.entries))
form_by site k (code.Dependencies entries) = of_dependencies (dependencies_in site k (members_view entries.now.entries))
form_by site k (code.Branches schemas) = of_branches (sites_of_list site k 0 (items_view schemas.now))
form_by site k (code.Value schema) = of_value (view schema.now) (site_of site k (view schema.now))
form_by site k (code.Condition condition then_schema else_schema) =
    of_condition (site_of site k (view condition.now)) (option_map (λ s. site_of site (codes "then") (view s.now)) then_schema) (option_map (λ s. site_of site (codes "else") (view s.now)) else_schema)

-- the questions, by the matches
abbrev pub asked_by : (List Part → Data → Site) → (List ℕ → List ℕ → Bool) → List ℕ → Data → Asks → List (Question Site)
asked_by site matches k d f = asked matches k d (form_by site k f)

-- the sites of its schemas: those of `then` and `else` are led to by these
abbrev pub leads_by : (List Part → Data → Site) → List ℕ → Asks → List Site
leads_by site k (code.ItemsFrom start schema) = site_of site k (view schema.now) ∷ []
leads_by site k (code.ItemByItem schemas) = sites_of_list site k 0 (items_view schemas.now)
leads_by site k (code.DeclaredMembers schemas) = sites_named (sites_of_map site k (members_view schemas.now.entries))
leads_by site k (code.MatchingMembers schemas) = sites_named (sites_of_map site k (members_view schemas.now.entries))
leads_by site k (code.OtherMembers declared schema) = site_of site k (view schema.now) ∷ []
leads_by site k (code.Members schema) = site_of site k (view schema.now) ∷ []
leads_by site k (code.Names schema) = site_of site k (view schema.now) ∷ []
leads_by site k (code.Triggered schemas) = sites_named (sites_of_map site k (members_view schemas.now.entries))
leads_by site k (code.Dependencies entries) = sites_applied (dependencies_in site k (members_view entries.now.entries))
leads_by site k (code.Branches schemas) = sites_of_list site k 0 (items_view schemas.now)
leads_by site k (code.Value schema) = site_of site k (view schema.now) ∷ []
leads_by site k (code.Condition condition then_schema else_schema) = site_of site k (view condition.now) ∷ []

-- the patterns in its schemas' names: what is not declared is made where the patterns beside are read
abbrev pub patterns_among : Asks → List (List ℕ)
patterns_among (code.MatchingMembers schemas) = member_names (members_view schemas.now.entries)
patterns_among asks = []

-- whether it asks the names of members
abbrev pub are_names : {S L N P E V : Type 0} → AsksOf S L N P E V → Bool
are_names (code.Names schema) = true
are_names asks = false

-- whether the answer to its first question chooses among the others
abbrev pub chooses : {S L N P E V : Type 0} → AsksOf S L N P E V → Bool
chooses (code.Condition condition then_schema else_schema) = true
chooses asks = false

-- whether it may note something of the value itself
abbrev pub may_note : {S L N P E V : Type 0} → AsksOf S L N P E V → Bool
may_note (code.Dependencies entries) = true
may_note asks = false

-- what it notes of the value itself: the names that are missing beside
abbrev pub noted_by : Asks → Data → List Note
noted_by (code.Dependencies entries) d = missing_beside (entries_of (members_view entries.now.entries)) d
noted_by asks d = []

-- the kind of the one fault that speaks for all that it asks
abbrev pub kind_asked : (List ℕ → List ℕ → Bool) → Asks → Data → Kind
kind_asked matches (code.ItemsFrom start schema) d = AdditionalItems
kind_asked matches (code.OtherMembers declared schema) d = AdditionalProperties (map (λ m. m.0) (other_members matches (declared_by declared) d))
kind_asked matches (code.Value schema) d = Not (view schema.now)
kind_asked matches asks d = FalseSchema

-- the value at fault
abbrev pub value_asked : Asks → Data → Data
value_asked (code.Members schema) d = first_value d (members_of d)
value_asked asks d = d
