-- The question that two paths lead to.
use Rattle.std.specs.Prelude.{◌≡◌, ◌≤◌, ◌++◌, ℕ, List, [], length}
use Rattle.schema_definitions.specs.PathTexts.{path_text}
use Rattle.schema_meaning.specs.Members.{In}
use Rattle.schema_meaning.specs.Places.{path_after}
use Rattle.certificate_laws.specs.Words.{IsRest}
use Rattle.fault_paths.specs.Texts.{text_left}
use Rattle.applicators.specs.Questions.{step_of}
use Rattle.applicators.specs.declared.question.Question.{Question}
use Rattle.fault_paths.specs.Behind.{entry_parts}
use Rattle.fault_paths.specs.declared.ahead.Ahead.{Ahead}

-- a question's step spells the beginning of the instance's text, its entry that of the evaluation's; what is left of both
pub record LeadsOn (q : Question) (instance evaluation i e : List ℕ) : Type 0 where
  pub at_instance : instance ≡ path_text (path_after [] (step_of q.asked)) ++ i
  pub on_evaluation : evaluation ≡ path_text (entry_parts q.subschema.entry) ++ e

-- ---- one question

pub record LeadsNowhere (q : Question) (instance evaluation : List ℕ) : Type 0 where
  pub none : (i e : List ℕ) → IsRest i → IsRest e → LeadsOn q instance evaluation i e → ⊥

pub record LeadsTo (q : Question) (instance evaluation : List ℕ) (a : Ahead) : Type 0 where
  pub same : a.question ≡ q
  pub leads : LeadsOn a.question instance evaluation (text_left a.instance) (text_left a.evaluation)

-- ---- several

pub record NoneAhead (qs : List Question) (instance evaluation : List ℕ) : Type 0 where
  pub none : (q : Question) → In q qs → (i e : List ℕ) → IsRest i → IsRest e → LeadsOn q instance evaluation i e → ⊥

pub record IsAhead (qs : List Question) (instance evaluation : List ℕ) (a : Ahead) : Type 0 where
  pub among : In a.question qs
  pub leads : LeadsOn a.question instance evaluation (text_left a.instance) (text_left a.evaluation)

-- what is left of the evaluation's text is no longer than it
abbrev pub IsNoLonger : List ℕ → Ahead → Type 0
IsNoLonger evaluation a = length (text_left a.evaluation) ≤ length evaluation
