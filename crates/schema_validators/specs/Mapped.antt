-- Maps of validators built of documents that were prepared for them alone.
use Rattle.std.specs.Prelude.{ℕ, List}
use Rattle.serde_json.specs.Data.{Data}
use Rattle.document_sources.specs.Given.{Given}
use Rattle.schema_registries.specs.declared.registry.SchemaRegistry.{SchemaRegistry}
use Rattle.schema_patterns.specs.declared.matcher.PatternMatcher.{Ghosts}
use Rattle.schema_registries.specs.Roots.{Patterns}
use Rattle.schema_validators.specs.Maps.{IsMapAt, RefusesMapAt}
use Rattle.schema_validators.specs.Prepared.{IsRegistry}
use Rattle.schema_validators.specs.declared.error.BuildError.{BuildError}
use Rattle.schema_validators.specs.declared.options.ValidationOptions.{ValidationOptions}
use Rattle.schema_validators.specs.declared.validator_map.ValidatorMap.{ValidatorMap}

pub record IsMapBuilt {P R M : Type 0} {G : Ghosts M} (p : Patterns) (may_answer : R → List ℕ → Data → Type 0) (may_refuse : R → List ℕ → Type 0) (o : ValidationOptions P R)
    (given : List Given) (reference : List ℕ) (m : ValidatorMap M G) : Type 0 where
  pub registry : SchemaRegistry
  pub prepared : IsRegistry may_answer may_refuse o given registry
  pub is_map : IsMapAt p registry reference o.node_limit m

-- the documents were prepared, and the map is refused
pub record RefusesMapping {P R : Type 0} (p : Patterns) (may_answer : R → List ℕ → Data → Type 0) (may_refuse : R → List ℕ → Type 0) (o : ValidationOptions P R) (given : List Given) (reference : List ℕ)
    (e : BuildError) : Type 0 where
  pub registry : SchemaRegistry
  pub prepared : IsRegistry may_answer may_refuse o given registry
  pub refused : RefusesMapAt p registry reference o.node_limit e
