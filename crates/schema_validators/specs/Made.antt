-- Validators of roots, by the patterns of a maker.
use Rattle.std.specs.Prelude.{ℕ, List, Bool, Option}
use Rattle.schema_engine.specs.declared.node.Node.{Node}
use Rattle.compiled_keywords.specs.declared.keyword.Keyword.{Keyword}
use Rattle.schema_patterns.specs.Tables.{AreMadeBy, texts_of_table}
use Rattle.schema_patterns.specs.declared.matcher.PatternMatcher.{Ghosts}
use Rattle.schema_patterns.specs.declared.table.PatternTable.{PatternTable}
use Rattle.schema_registries.specs.Roots.{Root, Patterns, IsSound}
use Rattle.schema_registries.specs.Matched.{HoldsPatterns}
use Rattle.schema_validators.specs.Meant.{Means}
use Rattle.schema_validators.specs.Seen.{nodes_in, table_in}
use Rattle.schema_validators.specs.declared.validator.Validator.{Validator}

-- Nothing is wrong at the schemas that a root leads to, some nodes mean them from one on, and each pattern there is among those of a table,
-- where it was made.
pub record IsMadeAt {M : Type 0} (finds : M → List ℕ → Option Bool) (p : Patterns) (r : Root) (nodes : List (Node Keyword)) (start : ℕ) (table : PatternTable M) : Type 0 where
  pub sound : IsSound p r
  pub means : Means p r nodes start
  pub patterns : HoldsPatterns p r (texts_of_table table)
  pub made : AreMadeBy finds p.finished table

-- a validator of a root
abbrev pub IsMadeBy : {M : Type 0} {G : Ghosts M} → Patterns → Root → Validator M G → Type 0
IsMadeBy {G = G} p r v = IsMadeAt G.finds p r (nodes_in v) v.start (table_in v)
