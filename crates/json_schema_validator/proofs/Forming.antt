-- What is answered of documents that may be none is what a form answers.
use Rattle.std.proofs.Common.{◌≡◌, ℕ, List, [], ◌∷◌, Some, Result, Ok, Err, String, IfOk, IfErr, inl, inr, ◌∙◌, sym, subst}
use Rattle.std.specs.declared.alloc.Global.{Global}
use Rattle.serde_json.specs.Data.{Data}
use Rattle.document_sources.specs.Given.{Given}
use Rattle.schema_registries.specs.Roots.{Patterns}
use Rattle.schema_registries.specs.Seen.{documents_given}
use Rattle.schema_registries.specs.declared.documents.Documents.{Documents}
use Rattle.schema_validators.specs.New.{AreDefault}
use Rattle.schema_validators.specs.declared.error.BuildError.{BuildError}
use Rattle.schema_validators.specs.declared.error.BuildError.TheVariants.{Memory}
use Rattle.schema_validators.specs.declared.options.ValidationOptions.{ValidationOptions}
use Rattle.document_sources.specs.declared.map.MapRetriever.{MapRetriever}
use Rattle.serde_json.specs.View.{view}
use Rattle.schema_registries.specs.Seen.{given_under}
use Rattle.moved_documents.specs.Forms.{put_inside}
use Rattle.json_schema_validator.specs.Answers.{IsAnswered, AnswersOne, RefusesDocument}
use Rattle.json_schema_validator.specs.Roads.{IsForm, IsAnsweredFrom, IsWithin, IsInside, IsBy, IsAddedBy, IsRetrievedBy, IsInsideBy, both_given, root_given, RefusesBothGiven, RefusesRootGiven}
use Rattle.json_schema_validator.specs.declared.roads.Moving.{Moving}

module _ {P R : Type 0} (p : Patterns) (may_answer : R → List ℕ → Data → Type 0) (may_refuse : R → List ℕ → Type 0) (o : ValidationOptions P R) (given : List Given)
    (refuses : BuildError → Type 0) (reference : List ℕ) (d : Data) where
  of_given : (answer : Result (String Global) BuildError) → IsAnswered p may_answer may_refuse o given reference d answer
      → IsForm p may_answer may_refuse o given refuses reference d answer
  of_given (Ok text) h = h
  of_given (Err e) h = (h.0, inr h.1)

  of_none : (e : BuildError) → refuses e → (e ≡ Memory → ⊥) → IsForm p may_answer may_refuse o given refuses reference d (Err e)
  of_none e r n = (n, inl r)

  pub is_form : (documents : Result Documents BuildError) → IfOk documents (λ ds. documents_given ds ≡ given) → IfErr documents refuses
      → (answer : Result (String Global) BuildError) → IsAnsweredFrom p may_answer may_refuse o documents reference d answer
      → IsForm p may_answer may_refuse o given refuses reference d answer
  is_form (Ok ds) is none answer h = of_given answer (subst (λ (g : List Given). IsAnswered p may_answer may_refuse o g reference d answer) is h)
  is_form (Err e) is none answer h =
      subst (λ (a : Result (String Global) BuildError). IsForm p may_answer may_refuse o given refuses reference d a) (sym h.0) (of_none e none h.1)

  pub are_form : {E : Type 0} (documents : Result Documents BuildError) → IfOk documents (λ ds. documents_given ds ≡ given) → IfErr documents refuses
      → (result : Result (Result (String Global) BuildError) E) → IfOk result (IsAnsweredFrom p may_answer may_refuse o documents reference d)
      → IfOk result (IsForm p may_answer may_refuse o given refuses reference d)
  are_form documents is none (Ok answer) h = is_form documents is none answer h
  are_form documents is none (Err e) h = h

-- ---- inside

module _ {P R : Type 0} (p : Patterns) (may_answer : R → List ℕ → Data → Type 0) (may_refuse : R → List ℕ → Type 0) (o : ValidationOptions P R) (m : Moving) (d whole : Data)
    (joined : put_inside m.fresh.now (view m.moved.now) (view m.root.now) ≡ Some whole) where
  is_within : (answer : Result (String Global) BuildError)
      → IsForm p may_answer may_refuse o (given_under m.root_uri.now whole ∷ []) (RefusesDocument m.root_uri.now whole) m.root_uri.now d answer
      → IsWithin p may_answer may_refuse o m d answer
  is_within answer h = record { whole = whole; joined = joined; is = h }

  pub are_inside : {E : Type 0} (result : Result (Result (String Global) BuildError) E)
      → IfOk result (IsForm p may_answer may_refuse o (given_under m.root_uri.now whole ∷ []) (RefusesDocument m.root_uri.now whole) m.root_uri.now d)
      → IfOk result (IsInside p may_answer may_refuse o m d)
  are_inside (Ok answer) h = inl (is_within answer h)
  are_inside (Err e) h = h

-- ---- by a maker of patterns

pub stay_default : {P Q R S : Type 0} (o : ValidationOptions P R) (o' : ValidationOptions Q S) → AreDefault o
    → o'.draft ≡ o.draft → o'.siblings ≡ o.siblings → o'.base ≡ o.base → o'.limit ≡ o.limit → o'.node_limit ≡ o.node_limit → o'.meta_schemas ≡ o.meta_schemas
    → AreDefault o'
stay_default o o' default draft siblings base limit node_limit meta_schemas =
    record {
      draft = draft ∙ default.draft;
      siblings = siblings ∙ default.siblings;
      base = base ∙ default.base;
      limit = limit ∙ default.limit;
      node_limit = node_limit ∙ default.node_limit;
      meta_schemas = meta_schemas ∙ default.meta_schemas;
    }

module _ {P R : Type 0} (patterns : P → Patterns) (may_answer : R → List ℕ → Data → Type 0) (may_refuse : R → List ℕ → Type 0) (maker : P) (o : ValidationOptions P R)
    (by : IsBy maker o) (m : Moving) (d : Data) (answer : Result (String Global) BuildError) where
  pub is_added_by : IsForm (patterns o.maker) may_answer may_refuse o (both_given m) (RefusesBothGiven m) m.root_uri.now d answer
      → IsAddedBy (patterns maker) may_answer may_refuse maker m d answer
  is_added_by h =
      record {
        options = o;
        by = by;
        is = subst (λ (x : P). IsForm (patterns x) may_answer may_refuse o (both_given m) (RefusesBothGiven m) m.root_uri.now d answer) by.is_maker h;
      }

  pub is_inside_by : IsInside (patterns o.maker) may_answer may_refuse o m d answer → IsInsideBy (patterns maker) may_answer may_refuse maker m d answer
  is_inside_by h =
      record { options = o; by = by; is = subst (λ (x : P). IsInside (patterns x) may_answer may_refuse o m d answer) by.is_maker h }

pub is_retrieved_by : {P : Type 0} (patterns : P → Patterns) (may_answer : MapRetriever → List ℕ → Data → Type 0) (may_refuse : MapRetriever → List ℕ → Type 0) (maker : P)
    → (o : ValidationOptions P MapRetriever) → IsBy maker o → (m : Moving) (d : Data) (answer : Result (String Global) BuildError)
    → (r : MapRetriever) → o.retriever.retriever ≡ r → AnswersOne m.moved_uri.now (view m.moved.now) r
    → IsForm (patterns o.maker) may_answer may_refuse o (root_given m) (RefusesRootGiven m) m.root_uri.now d answer
    → IsRetrievedBy (patterns maker) may_answer may_refuse maker m d answer
is_retrieved_by {P} patterns may_answer may_refuse maker o by m d answer r is asked h =
    record {
      options = o;
      by = by;
      asked = subst (λ (x : MapRetriever). AnswersOne m.moved_uri.now (view m.moved.now) x) (sym is) asked;
      is = subst (λ (x : P). IsForm (patterns x) may_answer may_refuse o (root_given m) (RefusesRootGiven m) m.root_uri.now d answer) by.is_maker h;
    }
