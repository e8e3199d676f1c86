-- Nodes that mean the schemas that a root leads to.
use Rattle.std.specs.Prelude.{ℕ, List, Option, Some, None}
use Rattle.schema_definitions.specs.Lookup.{Target}
use Rattle.schema_engine.specs.declared.node.Node.{Node}
use Rattle.compiled_keywords.specs.declared.keyword.Keyword.{Keyword}
use Rattle.compiled_graphs.specs.Linking.{IsCompiledAt}
use Rattle.schema_registries.specs.Roots.{Root, Patterns, Finds, IsSound, site_of_root}

-- from a node on they mean what is read of the documents from the root on
abbrev pub Means : Patterns → Root → List (Node Keyword) → ℕ → Type 0
Means p r nodes start = (target : Target) → Finds r target → IsCompiledAt r.documents p.makes nodes (site_of_root r target) start

-- There is a root, and a maker of patterns, by which nothing is wrong at the schemas reached, that they mean: said by what would follow if
-- there were none, so that there is one proof of it at most.
abbrev pub AreOfSome : List (Node Keyword) → ℕ → Type 0
AreOfSome nodes start = ((p : Patterns) (r : Root) → IsSound p r → Means p r nodes start → ⊥) → ⊥

-- from a start on, where there is one
abbrev pub IsOfSome : List (Node Keyword) → Option ℕ → Type 0
IsOfSome nodes None = Unit {0}
IsOfSome nodes (Some i) = AreOfSome nodes i
