-- The question that two texts lead to.
use Rattle.std.proofs.Common.{◌≡◌, ◌∙◌, ℕ, List, [], ◌∷◌, length, sym, ap, subst, arith, length-append}
use Rattle.schema_definitions.specs.PathTexts.{path_text}
use Rattle.schema_meaning.specs.Members.{In, first, later}
use Rattle.schema_meaning.specs.Places.{path_after}
use Rattle.certificate_laws.specs.Words.{IsRest}
use Rattle.fault_paths.specs.Texts.{text_left}
use Rattle.applicators.specs.Questions.{step_of}
use Rattle.applicators.specs.declared.question.Question.{Question}
use Rattle.fault_paths.specs.Behind.{BeginsOtherwise, entry_parts}
use Rattle.fault_paths.specs.Ahead.{LeadsOn, LeadsNowhere, LeadsTo, NoneAhead, IsAhead, IsNoLonger}
use Rattle.fault_paths.specs.declared.ahead.Ahead.{Ahead}

-- ---- one question

module _ (q : Question) (instance evaluation : List ℕ) where
  pub not_at_instance : BeginsOtherwise (path_after [] (step_of q.asked)) instance → LeadsNowhere q instance evaluation
  not_at_instance h = record { none = λ i e r s on. h.none i r on.at_instance }

  pub not_on_evaluation : BeginsOtherwise (entry_parts q.subschema.entry) evaluation → LeadsNowhere q instance evaluation
  not_on_evaluation h = record { none = λ i e r s on. h.none e s on.on_evaluation }

  pub leads_no_longer : (a : Ahead) → LeadsTo q instance evaluation a → IsNoLonger evaluation a
  leads_no_longer a h =
      let parts = path_text (entry_parts a.question.subschema.entry) in
      let whole : length evaluation ≡ _ = ap length h.leads.on_evaluation ∙ length-append parts (text_left a.evaluation) in
      omega (arith, whole)

-- ---- several

-- those that were looked at lead nowhere
pub record Rest (all rest : List Question) (instance evaluation : List ℕ) : Type 0 where
  pub among : (q : Question) → In q rest → In q all
  pub none : NoneAhead rest instance evaluation → NoneAhead all instance evaluation

module _ (all : List Question) (instance evaluation : List ℕ) where
  pub rest_all : Rest all all instance evaluation
  rest_all = record { among = λ q i. i; none = λ n. n }

  one_more : (q : Question) (rest : List Question) → LeadsNowhere q instance evaluation → NoneAhead rest instance evaluation → (p : Question) → In p (q ∷ rest)
      → (i e : List ℕ) → IsRest i → IsRest e → LeadsOn p instance evaluation i e → ⊥
  one_more q rest h n _ first = h.none
  one_more q rest h n p (later j) = n.none p j

  pub rest_more : (q : Question) (rest : List Question) → LeadsNowhere q instance evaluation → Rest all (q ∷ rest) instance evaluation → Rest all rest instance evaluation
  rest_more q rest h r = record { among = λ p i. r.among p (later i); none = λ n. r.none (record { none = one_more q rest h n }) }

  pub rest_none : Rest all [] instance evaluation → NoneAhead all instance evaluation
  rest_none r = r.none (record { none = λ q j. elim j [ ] })

  pub rest_found : (q : Question) (rest : List Question) (a : Ahead) → Rest all (q ∷ rest) instance evaluation → LeadsTo q instance evaluation a → IsAhead all instance evaluation a
  rest_found q rest a r h = record { among = subst (λ p. In p all) (sym h.same) (r.among q first); leads = h.leads }
