-- The shapes of keywords that are read, by the nodes of their subschemas.
use Rattle.std.specs.Prelude.{ℕ, List, [], ◌∷◌, Option, None, Some}
use Rattle.serde_json.specs.View.{view, members_view}
use Rattle.schema_definitions.specs.Rows.{member_names}
use Rattle.schema_meaning.specs.Keywords.{Shape, asserts, pattern, condition, reference}
use Rattle.assertions.specs.Shapes.{assertion_of}
use Rattle.applicators.specs.Applied.{name_of, combining_of, asks_of}
use Rattle.applicators.specs.Forms.{Form, each_from, by_index, by_name, by_pattern, of_others, of_members, of_names, of_triggered, of_dependencies, of_branches, of_value, of_condition, shape_by}
use Rattle.applicators.specs.Lent as lent
use Rattle.applicators.specs.Sites.{declared_by}
use Rattle.applicators.specs.declared.asks.AsksOf.TheVariants as asks
use Rattle.schema_sites.specs.References.{kind_of}
use Rattle.schema_sites.specs.declared.keyword.Keyword as read
use Rattle.schema_sites.specs.declared.keyword.Keyword.TheVariants as reads
use Rattle.compiled_keywords.specs.Shapes.{shape_of}
use Rattle.compiled_keywords.specs.declared.keyword.Keyword.{Keyword}
use Rattle.keyword_compilers.specs.Numbers.{first_in, beside, dependencies_by}
use Rattle.keyword_compilers.specs.declared.nodes.Nodes.{Nodes}

abbrev pub leads_in : Nodes → List ℕ
leads_in nodes = nodes.leads.now

abbrev pub numbered_form : Nodes → lent.Asks → Form ℕ
numbered_form nodes (asks.ItemsFrom start schema) = each_from start (first_in (leads_in nodes))
numbered_form nodes (asks.ItemByItem schemas) = by_index (leads_in nodes)
numbered_form nodes (asks.DeclaredMembers schemas) = by_name (beside (member_names (members_view schemas.now.entries)) (leads_in nodes))
numbered_form nodes (asks.MatchingMembers schemas) = by_pattern (beside (member_names (members_view schemas.now.entries)) (leads_in nodes))
numbered_form nodes (asks.OtherMembers declared schema) = of_others (declared_by declared) (first_in (leads_in nodes))
numbered_form nodes (asks.Members schema) = of_members (first_in (leads_in nodes))
numbered_form nodes (asks.Names schema) = of_names (first_in (leads_in nodes))
numbered_form nodes (asks.Triggered schemas) = of_triggered (beside (member_names (members_view schemas.now.entries)) (leads_in nodes))
numbered_form nodes (asks.Dependencies entries) = of_dependencies (dependencies_by (leads_in nodes) (members_view entries.now.entries))
numbered_form nodes (asks.Branches schemas) = of_branches (leads_in nodes)
numbered_form nodes (asks.Value schema) = of_value (view schema.now) (first_in (leads_in nodes))
numbered_form nodes (asks.Condition schema then_schema else_schema) = of_condition (first_in (leads_in nodes)) nodes.then_node nodes.else_node

abbrev pub numbered_shapes : Nodes → read.Keyword → List (Shape ℕ)
numbered_shapes nodes reads.Nothing = []
numbered_shapes nodes (reads.Assertion a) = asserts (assertion_of a) ∷ []
numbered_shapes nodes (reads.Pattern p) = asserts (pattern p.now) ∷ []
numbered_shapes nodes (reads.If schema then_schema else_schema) = condition (first_in (leads_in nodes)) nodes.then_node nodes.else_node ∷ []
numbered_shapes nodes (reads.Consequent k schema) = []
numbered_shapes nodes (reads.Applicator a) = shape_by (name_of a) (combining_of a) (numbered_form nodes (asks_of a)) ∷ []
numbered_shapes nodes (reads.Reference keyword text target) = reference (kind_of keyword) (first_in (leads_in nodes)) ∷ []

-- those of what a keyword is compiled to
abbrev pub shapes_in : Option Keyword → List (Shape ℕ)
shapes_in None = []
shapes_in (Some k) = shape_of k ∷ []
