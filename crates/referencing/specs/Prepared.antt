-- What is asked for the documents of a builder, and why they are no registry.
use Rattle.std.specs.Prelude.{◌⊎◌, ℕ, List}
use Rattle.serde_json.specs.Data.{Data}
use Rattle.schema_definitions.specs.Bearers.{Document}
use Rattle.document_sources.specs.Causes.{IsMemory}
use Rattle.document_sources.specs.declared.error.Error.{Error}
use Rattle.schema_definitions.specs.Rounds.{Asking}
use Rattle.document_retrieval.specs.Stages.{asking, Stops}
pub use Rattle.document_retrieval.specs.Gathered.{HasCause}
use Rattle.referencing.specs.Built.{layer_in}
use Rattle.referencing.specs.declared.builder.RegistryBuilder.{RegistryBuilder}

-- a builder's retriever is asked, and what is answered is of the layer of the documents that were added
abbrev pub asking_of : {R : Type 0} → (R → List ℕ → Data → Type 0) → (R → List ℕ → Type 0) → RegistryBuilder R → Asking
asking_of may_answer may_refuse b = asking may_answer may_refuse b.retriever (layer_in b)

-- want of memory; or the documents could not be gathered; or they were, and have a cause
abbrev pub RefusesRegistry : Asking → ℕ → List Document → Error → Type 0
RefusesRegistry a limit own e = IsMemory e ⊎ (Stops a limit own e ⊎ HasCause a limit own e)
