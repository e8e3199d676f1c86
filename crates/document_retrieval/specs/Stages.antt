-- How far documents are retrieved, and why no further.
use Rattle.std.specs.Prelude.{◌≡◌, ◌≤◌, ◌<◌, ◌+◌, ◌⊎◌, ℕ, List, [], ◌∷◌, ◌++◌, map, length}
use Rattle.std.specs.List.{AllByRecursion}
use Rattle.serde_json.specs.Data.{Data}
use Rattle.schema_meaning.specs.Members.{In}
use Rattle.schema_definitions.specs.Bearers.{Document, Documents, Layer}
use Rattle.document_index.specs.Seen.{document_of}
use Rattle.document_sources.specs.Causes.{NamesDocument}
use Rattle.document_sources.specs.declared.error.Error.{Error}
use Rattle.document_sources.specs.declared.error.Error.TheVariants.{RetrievalLimit}
use Rattle.schema_definitions.specs.Rounds.{Want, Asking, IsOfLayer, wants, AreRounds, gathered, retrieved}
use Rattle.document_retrieval.specs.declared.rounds.Retrieved.{Retrieved}

-- a retriever is asked, and its answers are of a layer
abbrev pub asking : {R : Type 0} → (R → List ℕ → Data → Type 0) → (R → List ℕ → Type 0) → R → Layer → Asking
asking may_answer may_refuse retriever layer =
    record { answers = may_answer retriever; refuses = may_refuse retriever; layer = layer }

abbrev pub documents_in : Retrieved → Documents
documents_in r = map document_of r.documents.items

abbrev pub uris_in : Retrieved → List (List ℕ)
uris_in r = map (λ u. u.value) r.uris.items

-- ---- one want

abbrev pub MayAnswer : Asking → Document → Type 0
MayAnswer a d = a.answers d.uri d.contents × IsOfLayer a.layer d

pub record IsAnswer (a : Asking) (w : Want) (d : Document) : Type 0 where
  pub uri : d.uri ≡ w.uri
  pub may : MayAnswer a d

pub record HasAnswer (a : Asking) (w : Want) (old new : Retrieved) : Type 0 where
  pub answer : Document
  pub is : IsAnswer a w answer
  pub documents : documents_in new ≡ documents_in old ++ answer ∷ []
  pub uris : uris_in new ≡ uris_in old ++ w.uri ∷ []

-- what is wanted may be refused, and the error says for what
pub record RefusesWant (a : Asking) (w : Want) (e : Error) : Type 0 where
  pub refused : a.refuses w.uri
  pub named : NamesDocument w.cause e

-- ---- one round

-- an answer to each want stands behind the documents
pub record HasAnswers (a : Asking) (ws : List Want) (old new : Retrieved) : Type 0 where
  pub answers : Documents
  pub asked : map (λ d. d.uri) answers ≡ map (λ w. w.uri) ws
  pub answered : AllByRecursion (MayAnswer a) answers
  pub documents : documents_in new ≡ documents_in old ++ answers
  pub uris : uris_in new ≡ uris_in old ++ map (λ w. w.uri) ws

-- and no more were retrieved than may be
pub record Adds (a : Asking) (limit : ℕ) (ws : List Want) (old new : Retrieved) : Type 0 where
  pub all : HasAnswers a ws old new
  pub within : length (uris_in old) ≤ limit → length (uris_in new) ≤ limit

abbrev pub SomeRefused : Asking → List Want → Error → Type 0
SomeRefused a ws e = (w : Want) × In w ws × RefusesWant a w e

-- more are wanted than may be retrieved
pub record AreTooMany (limit retrieved_now wanted : ℕ) (e : Error) : Type 0 where
  pub error : e ≡ RetrievalLimit limit
  pub more : limit < retrieved_now + wanted

abbrev pub RefusesRound : Asking → ℕ → List Want → Retrieved → Error → Type 0
RefusesRound a limit ws old e = SomeRefused a ws e ⊎ AreTooMany limit (length (uris_in old)) (length ws) e

-- ---- rounds

-- the documents after some rounds, and the URIs that were answered
pub record IsGathered (a : Asking) (limit : ℕ) (given documents : Documents) (uris : List (List ℕ)) : Type 0 where
  pub rounds : List Documents
  pub are : AreRounds a given rounds
  pub gathers : documents ≡ gathered given rounds
  pub answers : uris ≡ retrieved rounds
  pub within : length uris ≤ limit

-- nothing may be answered
abbrev pub AnswersNothing : Asking → Type 0
AnswersNothing a = (uri : List ℕ) (contents : Data) → a.answers uri contents → ⊥

-- after some rounds the retriever may refuse what is wanted, or more is wanted than may be retrieved
pub record Stops (a : Asking) (limit : ℕ) (given : Documents) (e : Error) : Type 0 where
  pub rounds : List Documents
  pub are : AreRounds a given rounds
  pub why : SomeRefused a (wants (gathered given rounds)) e
      ⊎ AreTooMany limit (length (retrieved rounds)) (length (wants (gathered given rounds))) e
