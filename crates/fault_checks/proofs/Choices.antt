-- The answers to what `if` asks, by the verdict of its schema.
use Rattle.std.proofs.Common.{◌≡◌, ◌∙◌, ◌++◌, ◌&&◌, ℕ, List, [], ◌∷◌, Bool, true, false, codes, map, Option, Some, None, refl, sym, ap, subst}
use Rattle.serde_json.specs.Data.{Data}
use Rattle.schema_meaning.specs.Members.{In, first, later, all_true}
use Rattle.schema_meaning.specs.Places.{whole, value_after}
use Rattle.schema_meaning.specs.Questions.{Question, at, here, asked_at}
use Rattle.schema_meaning.specs.Rules.{Rule, conditional, asks, accepts, obliged, refuses_at, chosen, chosen_name, consequents}
use Rattle.schema_meaning.specs.Keywords.{consequent}
use Rattle.schema_meaning.specs.Readings.{Reading, verdicts, told, IsTold}
use Rattle.schema_meaning.specs.Certificates.{AreAnswers}
use Rattle.meaning_laws.proofs.Known.{all_known-in}
use Rattle.meaning_laws.proofs.Obliged.{or, answers_are, obliged_in}
use Rattle.meaning_laws.proofs.Refuses.{told_once}
use Rattle.meaning_laws.proofs.Verdicts.{chosen-map}
use Rattle.certificate_laws.proofs.Values.{is_told_same}
use Rattle.fault_checks.specs.Verdicts.{chosen_of}

-- the name under which it refuses where its schema answers so
abbrev pub name_of : Bool → List ℕ
name_of accepted = chosen_name (accepted ∷ [])

abbrev pub choices : {S : Type 0} → Option S → Option S → List (Bool × Question S)
choices t e = consequent true (codes "then") t ++ consequent false (codes "else") e

abbrev pub the_choice : {S : Type 0} → S → Option S → Option S → Rule S
the_choice s t e = conditional (here (codes "if") s) (choices t e)

-- the one question that counts, where there is a schema
abbrev pub asked_of : {S : Type 0} → List ℕ → Option S → List (Question S)
asked_of k None = []
asked_of k (Some s) = here k s ∷ []

pub added_so : {S : Type 0} (k : List ℕ) (o : Option S) (q : Question S) → In q (asked_of k o) → q.added ≡ at k
added_so k None q i = elim i [ ]
added_so k (Some s) _ first = refl
added_so k (Some s) q (later i) = elim i [ ]

named_so : (b : Bool) (bs : List Bool) → chosen_name (b ∷ bs) ≡ name_of b
named_so true bs = refl
named_so false bs = refl

chosen_so : {S : Type 0} (b : Bool) (t e : Option S) → chosen b (choices t e) (consequents (choices t e)) ≡ asked_of (name_of b) (chosen_of b t e)
chosen_so true None None = refl
chosen_so true None (Some v) = refl
chosen_so true (Some u) None = refl
chosen_so true (Some u) (Some v) = refl
chosen_so false None None = refl
chosen_so false None (Some v) = refl
chosen_so false (Some u) None = refl
chosen_so false (Some u) (Some v) = refl

module _ {S : Type 0} (r : Reading S) (d : Data) (s : S) (t e : Option S) (bs : List Bool) (are : AreAnswers r (whole d) (the_choice s t e) bs) where
  abbrev ask : Question S → Option Bool
  ask q = told verdicts r are.unfoldings q.site (asked_at (whole d) q)

  abbrev answer : Question S → Bool
  answer q = or true (ask q)

  abbrev the_rule : Rule S
  the_rule = the_choice s t e

  answers : bs ≡ map answer (asks the_rule)
  answers = answers_are true ask (asks the_rule) bs are.are

  -- the answer that is told
  answer_is : (q : Question S) (b : Bool) → In q (asks the_rule) → IsTold verdicts r q.site (whole (value_after d q.step)) b → answer q ≡ b
  answer_is q b i h =
      let known = all_known-in ask (asks the_rule) bs are.are q i in
      let there = is_told_same r q.site (asked_at (whole d) q) (whole (value_after d q.step)) known.0 refl (record { unfoldings = are.unfoldings; is = known.1 }) in
      ap (or true) known.1 ∙ told_once verdicts r there.unfoldings h.unfoldings q.site (whole (value_after d q.step)) known.0 b there.is h.is

  -- it accepts where the question that counts is answered yes
  accepts_so : accepts the_rule bs ≡ all_true (map answer (obliged the_rule bs))
  accepts_so =
      let q = here (codes "if") s in
      ap (accepts the_rule) answers
      ∙ ap all_true (sym (chosen-map answer (answer q) (choices t e) (consequents (choices t e))))
      ∙ ap (λ xs. all_true (map answer (obliged the_rule xs))) (sym answers)

  module _ (b : Bool) (verdict : IsTold verdicts r s (whole d) b) where
    first_answer : bs ≡ b ∷ map answer (consequents (choices t e))
    first_answer = answers ∙ ap (λ x. x ∷ map answer (consequents (choices t e))) (answer_is (here (codes "if") s) b first verdict)

    pub refuses_so : refuses_at the_rule bs ≡ at (name_of b)
    refuses_so = ap (λ xs. at (chosen_name xs)) first_answer ∙ ap at (named_so b (map answer (consequents (choices t e))))

    pub obliges_so : obliged the_rule bs ≡ asked_of (name_of b) (chosen_of b t e)
    obliges_so = ap (obliged the_rule) first_answer ∙ chosen_so b t e

    -- with no schema for its answer it accepts
    pub none_so : chosen_of b t e ≡ None → accepts the_rule bs ≡ true
    none_so none = accepts_so ∙ ap (λ qs. all_true (map answer qs)) (obliges_so ∙ ap (asked_of (name_of b)) none)

    module _ (u : S) (chooses : chosen_of b t e ≡ Some u) where
      pub obliges_one : obliged the_rule bs ≡ here (name_of b) u ∷ []
      obliges_one = obliges_so ∙ ap (asked_of (name_of b)) chooses

      pub asks_one : In (here (name_of b) u) (asks the_rule)
      asks_one = obliged_in the_rule bs (here (name_of b) u) (subst (λ qs. In (here (name_of b) u) qs) (sym obliges_one) first)

      -- else by that of the schema
      pub one_so : (v : Bool) → IsTold verdicts r u (whole d) v → accepts the_rule bs ≡ v
      one_so v h =
          accepts_so ∙ ap (λ qs. all_true (map answer qs)) obliges_one ∙ ap (λ x. x && true) (answer_is (here (name_of b) u) v asks_one h) ∙ and_true v
        where
          and_true : (x : Bool) → (x && true) ≡ x
          and_true true = refl
          and_true false = refl
