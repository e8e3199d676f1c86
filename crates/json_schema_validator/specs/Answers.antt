-- What is answered of one form.
use Rattle.std.specs.Prelude.{◌≡◌, ◌⊎◌, ℕ, List, [], ◌∷◌, ◌++◌, ◌&&◌, bytes_eq, if◌then◌else◌, Some, None, Result, Ok, Err, String, string_bytes}
use Rattle.std.specs.declared.alloc.Global.{Global}
use Rattle.serde_json.specs.Data.{Data}
use Rattle.uri_grammar.specs.Parts.{split}
use Rattle.uri_grammar.specs.Grammar.{is_reference}
use Rattle.uri_references.specs.Identity.{identity_of}
use Rattle.document_sources.specs.Answers.{answer_for}
use Rattle.document_sources.specs.Given.{Given}
use Rattle.document_sources.specs.declared.map.MapRetriever.{MapRetriever}
use Rattle.schema_definitions.specs.Lines.{faults_text}
use Rattle.schema_meaning.specs.Faults.{Faults}
use Rattle.schema_registries.specs.Refused.{RefusesValue}
use Rattle.schema_registries.specs.Roots.{Root, Patterns, IsSound, root_on}
use Rattle.schema_registries.specs.declared.error.DocumentError.{DocumentError}
use Rattle.schema_registries.specs.declared.registry.SchemaRegistry.{SchemaRegistry}
use Rattle.schema_validators.specs.Answered.{AreFaults}
use Rattle.schema_validators.specs.Built.{RefusesBuilding}
use Rattle.schema_validators.specs.New.{IsOfDocument}
use Rattle.schema_validators.specs.Prepared.{IsRegistry}
use Rattle.schema_validators.specs.Refused.{RefusesPreparing}
use Rattle.schema_validators.specs.declared.error.BuildError.{BuildError}
use Rattle.schema_validators.specs.declared.error.BuildError.TheVariants.{Memory}
use Rattle.schema_validators.specs.declared.options.ValidationOptions.{ValidationOptions}

-- a document is refused as one of a form: want of memory, or what is wrong with it
pub record RefusesAs (uri : List ℕ) (d : Data) (e : BuildError) : Type 0 where
  pub cause : DocumentError
  pub refused : RefusesValue uri d cause
  pub told : IsOfDocument cause e

abbrev pub RefusesDocument : List ℕ → Data → BuildError → Type 0
RefusesDocument uri d e = (e ≡ Memory) ⊎ RefusesAs uri d e

-- a document is answered for its URI, and no other
abbrev pub AnswersOne : List ℕ → Data → MapRetriever → Type 0
AnswersOne uri d r = (q : List ℕ) → answer_for r q ≡ (if is_reference (split uri) && bytes_eq (identity_of uri) q then Some d else None)

-- the text of an instance's faults under a root, and a line end
abbrev pub IsTextOf : Patterns → Root → Data → List ℕ → Type 0
IsTextOf p r d written = (fs : Faults) × AreFaults p r d fs × (written ≡ faults_text fs ++ 10 ∷ [])

-- the documents were prepared, nothing is wrong with the root, and the text is that under it
pub record IsTextIn {P R : Type 0} (p : Patterns) (may_answer : R → List ℕ → Data → Type 0) (may_refuse : R → List ℕ → Type 0) (o : ValidationOptions P R) (given : List Given) (reference : List ℕ) (d : Data) (written : List ℕ) : Type 0 where
  pub registry : SchemaRegistry
  pub prepared : IsRegistry may_answer may_refuse o given registry
  pub sound : IsSound p (root_on registry reference)
  pub text : IsTextOf p (root_on registry reference) d written

abbrev pub Refuses : {P R : Type 0} → Patterns → (R → List ℕ → Data → Type 0) → (R → List ℕ → Type 0) → ValidationOptions P R → List Given → List ℕ → BuildError → Type 0
Refuses p may_answer may_refuse o given reference e =
    RefusesPreparing may_answer may_refuse o given e ⊎ RefusesBuilding p may_answer may_refuse o given reference e

-- the line text, or a cause of the documents or of the root
abbrev pub IsAnswered : {P R : Type 0} → Patterns → (R → List ℕ → Data → Type 0) → (R → List ℕ → Type 0) → ValidationOptions P R → List Given → List ℕ → Data → Result (String Global) BuildError → Type 0
IsAnswered p may_answer may_refuse o given reference d (Ok text) = IsTextIn p may_answer may_refuse o given reference d (string_bytes text)
IsAnswered p may_answer may_refuse o given reference d (Err e) = (e ≡ Memory → ⊥) × Refuses p may_answer may_refuse o given reference e
