-- What is found of documents, and why they are not gathered and prepared.
use Rattle.std.specs.Prelude.{◌≡◌, ◌<◌, ◌⊎◌, ℕ, List, [], map, length}
use Rattle.schema_meaning.specs.Members.{In}
use Rattle.schema_definitions.specs.Bearers.{Document, Documents}
use Rattle.schema_definitions.specs.DocumentCauses.{DocumentCause, document_causes}
use Rattle.schema_definitions.specs.Rounds.{Asking, wants}
use Rattle.document_sources.specs.Causes.{IsMemory, NamesDocument}
use Rattle.document_sources.specs.declared.error.Error.{Error}
use Rattle.document_index.specs.Surveys.{Prepares}
use Rattle.document_retrieval.specs.Known.{want_of}
use Rattle.document_retrieval.specs.Stages.{IsGathered, Stops}
use Rattle.document_retrieval.specs.declared.rounds.Found.{Found}
use Rattle.document_retrieval.specs.declared.rounds.Found.TheVariants.{Wants, Nothing}

-- what documents want, which is something, or that they want nothing, and what is kept of them
abbrev pub IsFound : Documents → Found → Type 0
IsFound docs (Wants ws) = (map want_of ws.items ≡ wants docs) × (0 < length ws.items)
IsFound docs (Nothing p) = (wants docs ≡ []) × Prepares p docs

-- the documents after all rounds, of which nothing else is wanted, have a cause to be refused, which is named
pub record HasCause (a : Asking) (limit : ℕ) (own : List Document) (e : Error) : Type 0 where
  pub documents : List Document
  pub uris : List (List ℕ)
  pub gathered : IsGathered a limit own documents uris
  pub complete : wants documents ≡ []
  pub cause : DocumentCause
  pub among : In cause (document_causes documents)
  pub named : NamesDocument cause e

-- want of memory; or the documents could not be gathered; or they were, and have a cause
abbrev pub RefusesAll : Asking → ℕ → List Document → Error → Type 0
RefusesAll a limit own e = IsMemory e ⊎ (Stops a limit own e ⊎ HasCause a limit own e)
