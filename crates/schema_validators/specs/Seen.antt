-- Roots, what validators have, and what options say.
use Rattle.std.specs.Prelude.{ℕ, List, []}
use Rattle.schema_definitions.specs.Bearers.{Document}
use Rattle.schema_engine.specs.declared.node.Node.{Node}
use Rattle.compiled_keywords.specs.declared.keyword.Keyword.{Keyword}
use Rattle.schema_patterns.specs.declared.matcher.PatternMatcher.{Ghosts}
use Rattle.schema_patterns.specs.declared.table.PatternTable.{PatternTable}
use Rattle.schema_registries.specs.Roots.{Root}
use Rattle.schema_validators.specs.declared.options.ValidationOptions.{ValidationOptions}
use Rattle.schema_validators.specs.declared.validator.Validator.{Validator}

-- a reference from a base into documents, where nothing was entered before
abbrev pub root_of : List Document → List ℕ → List ℕ → Root
root_of documents base reference = record { documents = documents; base = base; reference = reference; before = [] }

-- the nodes of a validator, and its patterns
abbrev pub nodes_in : {M : Type 0} {G : Ghosts M} → Validator M G → List (Node Keyword)
nodes_in v = v.schemas.value.graph.nodes.items

abbrev pub table_in : {M : Type 0} {G : Ghosts M} → Validator M G → PatternTable M
table_in v = v.schemas.value.table

abbrev pub maker_in : {P R : Type 0} → ValidationOptions P R → P
maker_in o = o.maker

-- how many compile keys are reached at most
abbrev pub node_limit_in : {P R : Type 0} → ValidationOptions P R → ℕ
node_limit_in o = o.node_limit
