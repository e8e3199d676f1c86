-- Validators over graphs, made of roots.
use Rattle.std.proofs.Common.{◌≡◌, ℕ, sym, subst}
use Rattle.compiled_graphs.specs.declared.schemas.SchemaGraph.{SchemaGraph}
use Rattle.schema_patterns.specs.declared.matcher.PatternMatcher.{Ghosts}
use Rattle.schema_registries.specs.Roots.{Root, Patterns}
use Rattle.schema_validators.specs.Made.{IsMadeAt, IsMadeBy}
use Rattle.schema_validators.specs.declared.validator.Validator.{Validator}

-- what was compiled is said of the validator that has it
pub made_over : {M : Type 0} {G : Ghosts M} (p : Patterns) (r : Root) (v : Validator M G) (s : SchemaGraph M G) (start : ℕ) → v.schemas.value ≡ s → v.start ≡ start
    → IsMadeAt G.finds p r s.graph.nodes.items start s.table → IsMadeBy p r v
made_over {M = M} {G = G} p r v s start schemas is made =
    subst (λ (i : ℕ). IsMadeAt G.finds p r v.schemas.value.graph.nodes.items i v.schemas.value.table) (sym is)
    (subst (λ (x : SchemaGraph M G). IsMadeAt G.finds p r x.graph.nodes.items start x.table) (sym schemas) made)
