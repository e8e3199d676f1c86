-- Validators of one schema, by the options that stand until it is said otherwise.
use Rattle.std.specs.Prelude.{◌≡◌, ◌⊎◌, ℕ, List, [], ◌∷◌, None, codes, false}
use Rattle.serde_json.specs.Data.{Data}
use Rattle.schema_drafts.specs.Drafts.{newest}
use Rattle.document_sources.specs.Given.{Given}
use Rattle.schema_registries.specs.Seen.{given_under}
use Rattle.schema_registries.specs.Refused.{RefusesValue}
use Rattle.schema_registries.specs.declared.error.DocumentError.{DocumentError}
use Rattle.schema_registries.specs.declared.error.DocumentError.TheVariants as document
use Rattle.schema_patterns.specs.declared.matcher.PatternMatcher.{Ghosts}
use Rattle.schema_registries.specs.Roots.{Patterns}
use Rattle.schema_validators.specs.Refused.{RefusesPreparing}
use Rattle.schema_validators.specs.Built.{IsBuilt, RefusesBuilding}
use Rattle.schema_validators.specs.declared.error.BuildError.{BuildError}
use Rattle.schema_validators.specs.declared.error.BuildError.TheVariants as error
use Rattle.schema_validators.specs.declared.options.ValidationOptions.{ValidationOptions}
use Rattle.schema_validators.specs.declared.validator.Validator.{Validator}

-- the newest draft, siblings of `$ref` not read where a draft ignores them, the base of schemas that have none, at most 256 documents
-- retrieved, at most 65,536 compile keys, and no meta-schemas
pub record AreDefault {P R : Type 0} (o : ValidationOptions P R) : Type 0 where
  pub draft : o.draft ≡ newest
  pub siblings : o.siblings ≡ false
  pub base : o.base ≡ codes "json-schema:///"
  pub limit : o.limit ≡ 256
  pub node_limit : o.node_limit ≡ 65536
  pub meta_schemas : o.meta_schemas ≡ None

-- the schema as the only document, under the empty reference
abbrev pub alone : Data → List Given
alone d = given_under [] d ∷ []

-- the validator at its root, by the maker
pub record IsNew {P R M : Type 0} {G : Ghosts M} (p : Patterns) (may_answer : R → List ℕ → Data → Type 0) (may_refuse : R → List ℕ → Type 0) (maker : P) (d : Data) (v : Validator M G) : Type 0 where
  pub options : ValidationOptions P R
  pub default : AreDefault options
  pub is_maker : options.maker ≡ maker
  pub built : IsBuilt p may_answer may_refuse options (alone d) [] v

-- the error that one of a document becomes
abbrev pub IsOfDocument : DocumentError → BuildError → Type 0
IsOfDocument e b = ((e ≡ document.Memory) × (b ≡ error.Memory)) ⊎ ((e ≡ document.Memory → ⊥) × (b ≡ error.Document e))

-- the schema is no document
pub record RefusesAlone (d : Data) (b : BuildError) : Type 0 where
  pub cause : DocumentError
  pub refused : RefusesValue [] d cause
  pub told : IsOfDocument cause b

pub record RefusesNew {P R : Type 0} (p : Patterns) (may_answer : R → List ℕ → Data → Type 0) (may_refuse : R → List ℕ → Type 0) (maker : P) (d : Data) (b : BuildError) : Type 0 where
  pub options : ValidationOptions P R
  pub default : AreDefault options
  pub is_maker : options.maker ≡ maker
  pub refused : RefusesPreparing may_answer may_refuse options (alone d) b ⊎ RefusesBuilding p may_answer may_refuse options (alone d) [] b

-- want of memory, a schema that is no document, or one that is refused
abbrev pub Refuses : {P R : Type 0} → Patterns → (R → List ℕ → Data → Type 0) → (R → List ℕ → Type 0) → P → Data → BuildError → Type 0
Refuses p may_answer may_refuse maker d b = (b ≡ error.Memory) ⊎ (RefusesAlone d b ⊎ RefusesNew p may_answer may_refuse maker d b)
