-- Registries of equal documents, and what is built and answered on each of two.
use Rattle.std.specs.Prelude.{◌≡◌, ℕ, List, Bool, Some, option_map, Result, Ok, Err}
use Rattle.serde_json.specs.Data.{Data}
use Rattle.schema_meaning.specs.Faults.{Faults}
use Rattle.schema_meaning.specs.Readings.{verdicts}
use Rattle.schema_definitions.specs.Lookup.{Target}
use Rattle.schema_patterns.specs.declared.matcher.PatternMatcher.{Ghosts}
use Rattle.schema_registries.specs.declared.registry.SharedRegistry.{SharedRegistry}
use Rattle.schema_registries.specs.declared.registry.SchemaRegistry.{SchemaRegistry}
use Rattle.schema_registries.specs.Seen.{documents_shared, retrieved_shared, documents_in_registry}
use Rattle.schema_registries.specs.Roots.{Root, Patterns, Finds}
use Rattle.schema_registries.specs.Answers.{Finish, ComesBack, IsAnswer}
use Rattle.schema_validators.specs.Asked.{IsAsked, meta_root}
use Rattle.schema_validators.specs.Answered.{WhereDecided, AreFaults}
use Rattle.schema_validators.specs.Made.{IsMadeBy}
use Rattle.schema_validators.specs.declared.error.BuildError.{BuildError}
use Rattle.schema_validators.specs.declared.error.BuildError.TheVariants as error
use Rattle.schema_validators.specs.declared.validator.Validator.{Validator}

-- ---- registries

-- Equal documents in one order, looked up from one base; and so it is with the meta-schemas handed in, of which the same were retrieved.
pub record AreAlike (left right : SchemaRegistry) : Type 0 where
  pub documents : documents_in_registry left ≡ documents_in_registry right
  pub base : left.base ≡ right.base
  pub meta_schemas : option_map documents_shared left.parent ≡ option_map documents_shared right.parent
  pub retrieved : option_map retrieved_shared left.parent ≡ option_map retrieved_shared right.parent

-- ---- values

-- a root leads somewhere, every match that a value asks for there finishes, and no references come back
pub record IsStraight (p : Patterns) (r : Root) (d : Data) : Type 0 where
  pub matches : List ℕ → List ℕ → Bool
  pub target : Target
  pub found : Finds r target
  pub finish : Finish p r matches target d
  pub straight : ComesBack p r matches target d → ⊥

-- so it is with a root's value under its meta-schema, where that is asked
abbrev pub IsMetaStraight : Patterns → SchemaRegistry → Root → Type 0
IsMetaStraight p registry root =
    (parent : SharedRegistry) (target : Target) (uri : List ℕ) → registry.parent ≡ Some parent → Finds root target → IsAsked parent target uri
    → IsStraight p (meta_root parent uri) target.contents

-- verdict and faults of a value from a root on
pub record Answers (p : Patterns) (r : Root) (d : Data) (verdict : Bool) (fs : Faults) : Type 0 where
  pub verdict_is : IsAnswer verdicts p r d verdict
  pub faults_are : AreFaults p r d fs

-- ---- validators

-- want of memory aside, one is built where the other is
abbrev pub AreBuiltAlike : {M : Type 0} {G : Ghosts M} → Result (Validator M G) BuildError → Result (Validator M G) BuildError → Type 0
AreBuiltAlike (Ok v) (Ok w) = Unit {0}
AreBuiltAlike (Ok v) (Err e) = e ≡ error.Memory
AreBuiltAlike (Err d) (Ok w) = d ≡ error.Memory
AreBuiltAlike (Err d) (Err e) = Unit {0}

-- this holds where two begin at one root, by the patterns of one maker, the matches that a value asks for finish and no references come back
abbrev pub WhereAlike : {M : Type 0} {G : Ghosts M} → Validator M G → Validator M G → Data → Type 0 → Type 0
WhereAlike v w d T = (p : Patterns) (r : Root) → IsMadeBy p r v → IsMadeBy p r w → WhereDecided p r d (λ matches target. T)
