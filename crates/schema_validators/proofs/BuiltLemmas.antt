-- Validators built of documents that were prepared for them alone.
use Rattle.std.proofs.Common.{◌≡◌, ◌⊎◌, inr, ℕ, List, [], Result, Ok, Err, IfOk, IfErr, subst}
use Rattle.serde_json.specs.Data.{Data}
use Rattle.schema_definitions.specs.Lookup.{Target}
use Rattle.document_sources.specs.Given.{Given}
use Rattle.schema_registries.specs.declared.registry.SchemaRegistry.{SchemaRegistry}
use Rattle.schema_registries.specs.Roots.{Patterns, Finds, root_on}
use Rattle.schema_patterns.specs.declared.matcher.PatternMatcher.{Ghosts}
use Rattle.schema_validators.specs.Made.{IsMadeBy}
use Rattle.schema_validators.specs.Counted.{IsWithin}
use Rattle.schema_validators.specs.Asked.{IsMet}
use Rattle.schema_validators.specs.Prepared.{IsRegistry}
use Rattle.schema_validators.specs.Refused.{RefusesPreparing, RefusesRoot}
use Rattle.schema_validators.specs.Built.{IsBuilt, RefusesBuilding}
use Rattle.schema_validators.specs.Maps.{IsMapAt, RefusesMapAt}
use Rattle.schema_validators.specs.Mapped.{IsMapBuilt, RefusesMapping}
use Rattle.schema_validators.specs.declared.validator_map.ValidatorMap.{ValidatorMap}
use Rattle.schema_validators.specs.New.{AreDefault, alone, IsNew, Refuses}
use Rattle.schema_validators.specs.declared.error.BuildError.{BuildError}
use Rattle.schema_validators.specs.declared.options.ValidationOptions.{ValidationOptions}
use Rattle.schema_validators.specs.declared.validator.Validator.{Validator}

module _ {P R : Type 0} (p : Patterns) (may_answer : R → List ℕ → Data → Type 0) (may_refuse : R → List ℕ → Type 0) (o : ValidationOptions P R) (given : List Given) (reference : List ℕ)
    (r : SchemaRegistry) (prepared : IsRegistry may_answer may_refuse o given r) where
  pub built_by : {M : Type 0} {G : Ghosts M} (x : Result (Validator M G) BuildError) → IfOk x (λ v. IsMadeBy p (root_on r reference) v)
      → IfOk x (λ v. (target : Target) → Finds (root_on r reference) target → v.draft ≡ target.dialect.draft) → IfOk x (λ v. IsWithin p o.node_limit (root_on r reference))
      → IfOk x (λ v. (target : Target) → Finds (root_on r reference) target → IsMet p o.node_limit r.parent target)
      → IfOk x (IsBuilt p may_answer may_refuse o given reference)
  built_by (Ok v) made draft within met = record { registry = r; prepared = prepared; made = made; draft = draft; within = within; met = met }
  built_by (Err e) made draft within met = tt

  pub building_refused : {T : Type 0} (x : Result T BuildError) → IfErr x (RefusesRoot p o.node_limit r (root_on r reference))
      → IfErr x (λ e. RefusesPreparing may_answer may_refuse o given e ⊎ RefusesBuilding p may_answer may_refuse o given reference e)
  building_refused (Ok v) why = tt
  building_refused (Err e) why = inr (record { registry = r; prepared = prepared; refused = why })

  pub mapped_by : {M : Type 0} {G : Ghosts M} (x : Result (ValidatorMap M G) BuildError) → IfOk x (λ m. IsMapAt p r reference o.node_limit m)
      → IfOk x (IsMapBuilt p may_answer may_refuse o given reference)
  mapped_by (Ok m) is = record { registry = r; prepared = prepared; is_map = is }
  mapped_by (Err e) is = tt

  pub mapping_refused : {T : Type 0} (x : Result T BuildError) → IfErr x (λ e. RefusesMapAt p r reference o.node_limit e)
      → IfErr x (λ e. RefusesPreparing may_answer may_refuse o given e ⊎ RefusesMapping p may_answer may_refuse o given reference e)
  mapping_refused (Ok v) why = tt
  mapping_refused (Err e) why = inr (record { registry = r; prepared = prepared; refused = why })

-- a validator of one schema, by the options that stand until it is said otherwise
module _ {P R : Type 0} (patterns : P → Patterns) (may_answer : R → List ℕ → Data → Type 0) (may_refuse : R → List ℕ → Type 0)
    (o : ValidationOptions P R) (maker : P) (d : Data) (given : List Given) (default : AreDefault o) (is_maker : o.maker ≡ maker) (is : given ≡ alone d) where
  pub new_by : {M : Type 0} {G : Ghosts M} (x : Result (Validator M G) BuildError) → IfOk x (IsBuilt (patterns o.maker) may_answer may_refuse o given [])
      → IfOk x (IsNew (patterns maker) may_answer may_refuse maker d)
  new_by (Ok v) built = record {
    options = o;
    default = default;
    is_maker = is_maker;
    built = subst (λ (m : P). IsBuilt (patterns m) may_answer may_refuse o (alone d) [] v) is_maker
        (subst (λ (g : List Given). IsBuilt (patterns o.maker) may_answer may_refuse o g [] v) is built);
  }
  new_by (Err e) built = tt

  pub new_refused : {T : Type 0} (x : Result T BuildError)
      → IfErr x (λ e. RefusesPreparing may_answer may_refuse o given e ⊎ RefusesBuilding (patterns o.maker) may_answer may_refuse o given [] e)
      → IfErr x (Refuses (patterns maker) may_answer may_refuse maker d)
  new_refused (Ok y) why = tt
  new_refused (Err e) why = inr (inr (record {
    options = o;
    default = default;
    is_maker = is_maker;
    refused = subst (λ (m : P). RefusesPreparing may_answer may_refuse o (alone d) e ⊎ RefusesBuilding (patterns m) may_answer may_refuse o (alone d) [] e) is_maker
        (subst (λ (g : List Given). RefusesPreparing may_answer may_refuse o g e ⊎ RefusesBuilding (patterns o.maker) may_answer may_refuse o g [] e) is why);
  }))
