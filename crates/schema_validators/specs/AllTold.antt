-- All that the meta-schema of a root finds wrong with it.
use Rattle.std.specs.Prelude.{◌≡◌, ◌⊎◌, ℕ, List, [], Option, Some, None, true}
use Rattle.serde_json.specs.Data.{Data}
use Rattle.schema_definitions.specs.Lookup.{Target}
use Rattle.schema_meaning.specs.Faults.{is_none}
use Rattle.schema_meaning.specs.Readings.{verdicts}
use Rattle.schema_reports.specs.Told.{faults_of, are_proper}
use Rattle.schema_reports.specs.declared.error.ValidationError.{ValidationError}
use Rattle.schema_registries.specs.declared.registry.SharedRegistry.{SharedRegistry}
use Rattle.schema_registries.specs.declared.registry.SchemaRegistry.{SchemaRegistry}
use Rattle.schema_registries.specs.Answers.{IsAnswer}
use Rattle.schema_registries.specs.Roots.{Root, Patterns, Finds, IsSound}
use Rattle.schema_validators.specs.Answered.{AreFaults}
use Rattle.schema_validators.specs.Asked.{IsAsked, meta_root}
use Rattle.schema_validators.specs.Counted.{IsWithin}
use Rattle.schema_validators.specs.Refused.{RefusesBuild, RefusesReference}
use Rattle.schema_validators.specs.declared.error.BuildError.{BuildError}
use Rattle.schema_validators.specs.declared.error.BuildError.TheVariants as error

-- A meta-schema may be read, reaches no more compile keys than the limit, and tells these errors of a value: all of its faults, and none
-- exactly where it accepts.
pub record TellsAll (p : Patterns) (limit : ℕ) (r : Root) (d : Data) (es : List ValidationError) : Type 0 where
  pub sound : IsSound p r
  pub within : IsWithin p limit r
  pub faults : AreFaults p r d (faults_of es)
  pub verdict : IsAnswer verdicts p r d (is_none (faults_of es))
  pub proper : are_proper es ≡ true

-- so does the meta-schema of a root of the root's value, and where none is asked there are none
pub record TellsOf (p : Patterns) (limit : ℕ) (parent : SharedRegistry) (t : Target) (es : List ValidationError) : Type 0 where
  pub asked : (uri : List ℕ) → IsAsked parent t uri → TellsAll p limit (meta_root parent uri) t.contents es
  pub not_asked : ((uri : List ℕ) → IsAsked parent t uri → ⊥) → es ≡ []

-- the same where meta-schemas were handed in, and none where there are none
abbrev pub TellsIn : Patterns → ℕ → Option SharedRegistry → Target → List ValidationError → Type 0
TellsIn p limit None t es = es ≡ []
TellsIn p limit (Some parent) t es = TellsOf p limit parent t es

-- ---- why they are not told

-- the meta-schema that is asked is not read
pub record IsUnread (p : Patterns) (limit : ℕ) (parent : SharedRegistry) (t : Target) (e : BuildError) : Type 0 where
  pub uri : List ℕ
  pub asked : IsAsked parent t uri
  pub why : RefusesBuild p limit (meta_root parent uri) e

abbrev pub RefusesTellingOf : Patterns → ℕ → SharedRegistry → Target → BuildError → Type 0
RefusesTellingOf p limit parent t e = (e ≡ error.Memory) ⊎ IsUnread p limit parent t e

pub record IsUnreadOf (p : Patterns) (limit : ℕ) (r : SchemaRegistry) (root : Root) (e : BuildError) : Type 0 where
  pub parent : SharedRegistry
  pub is_parent : r.parent ≡ Some parent
  pub target : Target
  pub found : Finds root target
  pub refused : RefusesTellingOf p limit parent target e

-- the reference to the root leads nowhere, its meta-schema is not read, or memory is wanted
abbrev pub RefusesTelling : Patterns → ℕ → SchemaRegistry → Root → BuildError → Type 0
RefusesTelling p limit r root e = RefusesReference root e ⊎ IsUnreadOf p limit r root e
