-- What is answered of three forms of one pair of documents.
use Rattle.std.specs.Prelude.{◌≡◌, ◌⊎◌, ℕ, List, [], ◌∷◌, codes, Some, None, Result, Ok, Err, String, string_bytes}
use Rattle.std.specs.declared.alloc.Global.{Global}
use Rattle.serde_json.specs.Data.{Data}
use Rattle.serde_json.specs.Find.{as_object}
use Rattle.serde_json.specs.View.{view}
use Rattle.json_values.specs.Parts.{name}
use Rattle.document_sources.specs.Given.{Given, with_given}
use Rattle.document_sources.specs.declared.map.MapRetriever.{MapRetriever}
use Rattle.schema_registries.specs.Seen.{documents_given, given_under}
use Rattle.schema_registries.specs.declared.documents.Documents.{Documents}
use Rattle.moved_documents.specs.Forms.{put_inside}
use Rattle.moved_documents.specs.Joining.{HasNoRoom}
use Rattle.schema_validators.specs.Passed.{Patterns}
use Rattle.schema_validators.specs.New.{AreDefault}
use Rattle.schema_validators.specs.declared.error.BuildError.{BuildError}
use Rattle.schema_validators.specs.declared.error.BuildError.TheVariants.{Memory}
use Rattle.schema_validators.specs.declared.options.ValidationOptions.{ValidationOptions}
use Rattle.json_schema_validator.specs.Answers.{RefusesDocument, AnswersOne, IsTextIn, Refuses, IsAnswered}
use Rattle.json_schema_validator.specs.Rooms.{NamesWord}
use Rattle.json_schema_validator.specs.declared.roads.Moving.{Moving}

-- ---- the documents of a form, and why they are none

abbrev pub root_given : Moving → List Given
root_given m = given_under m.root_uri.now (view m.root.now) ∷ []

abbrev pub both_given : Moving → List Given
both_given m = with_given (root_given m) (given_under m.moved_uri.now (view m.moved.now))

abbrev pub RefusesRootGiven : Moving → BuildError → Type 0
RefusesRootGiven m e = RefusesDocument m.root_uri.now (view m.root.now) e

abbrev pub RefusesBothGiven : Moving → BuildError → Type 0
RefusesBothGiven m e = RefusesRootGiven m e ⊎ RefusesDocument m.moved_uri.now (view m.moved.now) e

-- ---- one form

-- the line text, or what is wrong with a document, with all of them, or with the root; never want of memory
abbrev pub IsForm : {P R : Type 0} → Patterns → (R → List ℕ → Data → Type 0) → (R → List ℕ → Type 0) → ValidationOptions P R → List Given → (BuildError → Type 0) → List ℕ → Data → Result (String Global) BuildError → Type 0
IsForm p may_answer may_refuse o given refuses reference d (Ok text) = IsTextIn p may_answer may_refuse o given reference d (string_bytes text)
IsForm p may_answer may_refuse o given refuses reference d (Err e) = (e ≡ Memory → ⊥) × (refuses e ⊎ Refuses p may_answer may_refuse o given reference e)

-- of documents that may be none
abbrev pub IsAnsweredFrom : {P R : Type 0} → Patterns → (R → List ℕ → Data → Type 0) → (R → List ℕ → Type 0) → ValidationOptions P R → Result Documents BuildError → List ℕ → Data → Result (String Global) BuildError → Type 0
IsAnsweredFrom p may_answer may_refuse o (Ok documents) reference d answer = IsAnswered p may_answer may_refuse o (documents_given documents) reference d answer
IsAnsweredFrom p may_answer may_refuse o (Err e) reference d answer = (answer ≡ Err e) × (e ≡ Memory → ⊥)

-- ---- inside: the form, or why there is no room

abbrev pub IsErrOf : (BuildError → Type 0) → Result (String Global) BuildError → Type 0
IsErrOf P (Ok text) = ⊥
IsErrOf P (Err e) = P e

pub record IsWithin {P R : Type 0} (p : Patterns) (may_answer : R → List ℕ → Data → Type 0) (may_refuse : R → List ℕ → Type 0) (o : ValidationOptions P R) (m : Moving) (d : Data) (answer : Result (String Global) BuildError) : Type 0 where
  pub whole : Data
  pub joined : put_inside m.fresh.now (view m.moved.now) (view m.root.now) ≡ Some whole
  pub is : IsForm p may_answer may_refuse o (given_under m.root_uri.now whole ∷ []) (RefusesDocument m.root_uri.now whole) m.root_uri.now d answer

pub record IsNoObject (m : Moving) (answer : Result (String Global) BuildError) : Type 0 where
  pub none : as_object (view m.root.now) ≡ None
  pub named : IsErrOf (NamesWord m.root_uri.now [] (codes "object")) answer

pub record IsNotFresh (m : Moving) (answer : Result (String Global) BuildError) : Type 0 where
  pub none : HasNoRoom (view m.root.now) (view m.moved.now) m.fresh.now
  pub named : IsErrOf (NamesWord m.root_uri.now (name (codes "$defs") ∷ []) (codes "fresh name")) answer

abbrev pub IsInside : {P R : Type 0} → Patterns → (R → List ℕ → Data → Type 0) → (R → List ℕ → Type 0) → ValidationOptions P R → Moving → Data → Result (String Global) BuildError → Type 0
IsInside p may_answer may_refuse o m d answer = IsWithin p may_answer may_refuse o m d answer ⊎ (IsNoObject m answer ⊎ IsNotFresh m answer)

-- ---- by options as they stand until it is said otherwise, and a maker of patterns

pub record IsBy {P R : Type 0} (maker : P) (o : ValidationOptions P R) : Type 0 where
  pub default : AreDefault o
  pub is_maker : o.maker ≡ maker

pub record IsAddedBy {P R : Type 0} (p : Patterns) (may_answer : R → List ℕ → Data → Type 0) (may_refuse : R → List ℕ → Type 0) (maker : P) (m : Moving) (d : Data) (answer : Result (String Global) BuildError) : Type 0 where
  pub options : ValidationOptions P R
  pub by : IsBy maker options
  pub is : IsForm p may_answer may_refuse options (both_given m) (RefusesBothGiven m) m.root_uri.now d answer

pub record IsRetrievedBy {P : Type 0} (p : Patterns) (may_answer : MapRetriever → List ℕ → Data → Type 0) (may_refuse : MapRetriever → List ℕ → Type 0) (maker : P) (m : Moving) (d : Data) (answer : Result (String Global) BuildError) : Type 0 where
  pub options : ValidationOptions P MapRetriever
  pub by : IsBy maker options
  pub asked : AnswersOne m.moved_uri.now (view m.moved.now) options.retriever.retriever
  pub is : IsForm p may_answer may_refuse options (root_given m) (RefusesRootGiven m) m.root_uri.now d answer

pub record IsInsideBy {P R : Type 0} (p : Patterns) (may_answer : R → List ℕ → Data → Type 0) (may_refuse : R → List ℕ → Type 0) (maker : P) (m : Moving) (d : Data) (answer : Result (String Global) BuildError) : Type 0 where
  pub options : ValidationOptions P R
  pub by : IsBy maker options
  pub is : IsInside p may_answer may_refuse options m d answer
