-- Graphs of compiled keywords that mean what documents mean.
use Rattle.std.specs.Prelude.{ℕ, List, Bool, Option}
use Rattle.schema_definitions.specs.Bearers.{Documents}
use Rattle.schema_definitions.specs.Sites.{Site}
use Rattle.schema_engine.specs.declared.node.Node.{Node}
use Rattle.schema_patterns.specs.declared.table.PatternTable.{PatternTable}
use Rattle.compiled_keywords.specs.Shapes.{shape_of, Knows}
use Rattle.compiled_keywords.specs.declared.keyword.Keyword.{Keyword}
pub use Rattle.graph_answers.specs.Linking.{as_spelled, StandsFor}
use Rattle.graph_answers.specs.Linking as any

-- at each site stands what its node says
abbrev pub MeansDocuments : Documents → (List ℕ → Bool) → List (Node Keyword) → List (Option Site) → Type 0
MeansDocuments docs makes nodes sites = any.MeansDocuments shape_of docs makes nodes sites

-- a graph that means what documents mean, with the node of a site
abbrev pub IsCompiledAt : Documents → (List ℕ → Bool) → List (Node Keyword) → Site → ℕ → Type 0
IsCompiledAt docs makes nodes root start = any.IsCompiledAt shape_of docs makes nodes root start

-- the graph's patterns are those of the table, by their numbers
abbrev pub KnowsTable : {M : Type 0} → List (Node Keyword) → PatternTable M → Type 0
KnowsTable nodes table = any.KnowsTable Knows nodes table
