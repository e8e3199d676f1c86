-- Validators built of documents that were prepared for them alone.
use Rattle.std.specs.Prelude.{◌≡◌, ℕ, List}
use Rattle.serde_json.specs.Data.{Data}
use Rattle.schema_definitions.specs.Lookup.{Target}
use Rattle.document_sources.specs.Given.{Given}
use Rattle.schema_registries.specs.declared.registry.SchemaRegistry.{SchemaRegistry}
use Rattle.schema_patterns.specs.declared.matcher.PatternMatcher.{Ghosts}
use Rattle.schema_registries.specs.Roots.{Patterns, Finds, root_on}
use Rattle.schema_validators.specs.Made.{IsMadeBy}
use Rattle.schema_validators.specs.Counted.{IsWithin}
use Rattle.schema_validators.specs.Asked.{IsMet}
use Rattle.schema_validators.specs.Prepared.{IsRegistry}
use Rattle.schema_validators.specs.Refused.{RefusesRoot}
use Rattle.schema_validators.specs.declared.error.BuildError.{BuildError}
use Rattle.schema_validators.specs.declared.options.ValidationOptions.{ValidationOptions}
use Rattle.schema_validators.specs.declared.validator.Validator.{Validator}

-- on the registry of the documents it is made of the root and has its draft, no more compile keys than the limit are reached, and the root's meta-schema accepts it
pub record IsBuilt {P R M : Type 0} {G : Ghosts M} (p : Patterns) (may_answer : R → List ℕ → Data → Type 0) (may_refuse : R → List ℕ → Type 0) (o : ValidationOptions P R) (given : List Given) (reference : List ℕ) (v : Validator M G) : Type 0 where
  pub registry : SchemaRegistry
  pub prepared : IsRegistry may_answer may_refuse o given registry
  pub made : IsMadeBy p (root_on registry reference) v
  pub draft : (target : Target) → Finds (root_on registry reference) target → v.draft ≡ target.dialect.draft
  pub within : IsWithin p o.node_limit (root_on registry reference)
  pub met : (target : Target) → Finds (root_on registry reference) target → IsMet p o.node_limit registry.parent target

-- the documents were prepared, and the root is refused
pub record RefusesBuilding {P R : Type 0} (p : Patterns) (may_answer : R → List ℕ → Data → Type 0) (may_refuse : R → List ℕ → Type 0) (o : ValidationOptions P R) (given : List Given) (reference : List ℕ) (e : BuildError) : Type 0 where
  pub registry : SchemaRegistry
  pub prepared : IsRegistry may_answer may_refuse o given registry
  pub refused : RefusesRoot p o.node_limit registry (root_on registry reference) e
