-- What is retrieved: values with whole numbers alone, and documents with those that they want.
use Rattle.std.specs.Prelude.{◌≡◌, ◌⊎◌, ℕ, List, [], ◌++◌, true, false}
use Rattle.serde_json.specs.Data.{Data}
use Rattle.schema_definitions.specs.Bearers.{Document, Layer}
use Rattle.schema_definitions.specs.DocumentCauses.{document_causes}
use Rattle.schema_definitions.specs.Rounds.{Asking, wants, none_twice}
use Rattle.document_retrieval.specs.Stages.{IsGathered, AnswersNothing}
use Rattle.document_sources.specs.Given.{Given, documents_by}
use Rattle.schema_registries.specs.Whole.{only_whole}
use Rattle.schema_registries.specs.declared.whole_numbers.WholeNumbers.{WholeNumbers}

-- what another retriever may answer is answered where its numbers are whole, and refused where one is not
abbrev pub may_answer_whole : {R : Type 0} → (R → List ℕ → Data → Type 0) → WholeNumbers R → List ℕ → Data → Type 0
may_answer_whole may_answer w uri d = may_answer w.retriever uri d × (only_whole d ≡ true)

abbrev pub may_refuse_whole : {R : Type 0} → (R → List ℕ → Data → Type 0) → (R → List ℕ → Type 0) → WholeNumbers R → List ℕ → Type 0
may_refuse_whole may_answer may_refuse w uri =
    may_refuse w.retriever uri ⊎ ((d : Data) × may_answer w.retriever uri d × (only_whole d ≡ false))

-- Documents with those that they want and that were retrieved: nothing else is wanted, they have no cause to be refused, no URI was answered
-- twice, and where nothing may be answered they are alone.
pub record IsPrepared (a : Asking) (limit : ℕ) (own documents : List Document) (uris : List (List ℕ)) : Type 0 where
  pub gathered : IsGathered a limit own documents uris
  pub once : none_twice uris ≡ true
  pub complete : wants documents ≡ []
  pub accepted : document_causes documents ≡ []
  pub alone : AnswersNothing a → (documents ≡ own) × (uris ≡ [])

-- documents given beside others, in a layer of their own behind them
abbrev pub beside : List Document → Layer → List Given → List Document
beside others layer given = others ++ documents_by layer given
