-- Whether an applicator refuses, by the number of its questions that are answered yes.
use Rattle.std.proofs.Common.{◌≡◌, ◌+◌, ◌≤◌, ℕ, suc, List, [], ◌∷◌, length, map, Bool, true, false, true≢false, not, Option, Some, None, refl, sym, ap, subst, ◌∙◌, arith}
use Rattle.serde_json.specs.Data.{Data, depth}
use Rattle.serde_json.specs.View.{view}
use Rattle.schema_meaning.specs.Members.{In, first, later, known_too, all_known, count_true}
use Rattle.schema_meaning.specs.Places.{whole, value_after}
use Rattle.schema_meaning.specs.Questions as asking
use Rattle.schema_meaning.specs.Questions.{at, asked_at}
use Rattle.schema_meaning.specs.Rules.{Rule, asks, accepts, refuses_at}
use Rattle.schema_meaning.specs.Keywords.{rule}
use Rattle.schema_meaning.specs.Readings.{Reading, verdicts, told, IsTold}
use Rattle.schema_meaning.specs.Certificates.{AreAnswers}
use Rattle.schema_definitions.specs.Sites.{Site, below}
use Rattle.schema_definitions.specs.Plain.{deepest}
use Rattle.meaning_laws.proofs.Refuses.{answers_once, told_once}
use Rattle.applicators.specs.Shapes.{shape_of}
use Rattle.applicators.specs.Combined.{is_by_answers, has_notes, refused_name, Decides}
use Rattle.applicators.specs.Questions.{question_of, questions_of}
use Rattle.applicators.specs.Applied.{Applicator}
use Rattle.applicators.specs.declared.question.Question.{Question}
use Rattle.certificate_laws.proofs.Answers.{answers_there}
use Rattle.certificate_laws.proofs.Values.{is_told_same}
use Rattle.reading_laws.proofs.Elements.{in_mapped}
use Rattle.schema_patterns.specs.Read.{reads}
use Rattle.plain_reader.specs.Applied.{AreAsked}
use Rattle.plain_reader.specs.Passed.{documents_at}
use Rattle.plain_reader.specs.Passed as code
use Rattle.certificate_laws.proofs.Begun.{rules_stand}
use Rattle.fault_checks.specs.Scenes.{Scene, reading_of, Stage}
use Rattle.fault_checks.specs.Rows.{applied_row}
use Rattle.fault_checks.specs.Verdicts.{IsDecided, SomeRefusesAt, IsAnswered, IsRefusalAt, AreCounted}
use Rattle.fault_checks.proofs.NamedRefusals.{refused_under, as_many_answers}
use Rattle.fault_checks.proofs.AppliedQuestions.{asked_there}
use Rattle.fault_checks.proofs.Right.{told_there}
use Rattle.fault_checks.proofs.Children.{meets_shallow}

one_part : (k n : List ℕ) → at k ≡ at n → k ≡ n
one_part k n e = cc

-- ---- the answers, by what is told of each question

abbrev AreTold : Reading Site → Data → List (asking.Question Site) → List Bool → Type 0
AreTold r d [] [] = Unit {0}
AreTold r d [] (b ∷ bs) = ⊥
AreTold r d (q ∷ qs) [] = ⊥
AreTold r d (q ∷ qs) (b ∷ bs) = IsTold verdicts r q.site (whole (value_after d q.step)) b × AreTold r d qs bs

known_once : (o : Option Bool) (os : Option (List Bool)) (b : Bool) (bs cs : List Bool) → ((x : Bool) → o ≡ Some x → x ≡ b) → ((xs : List Bool) → os ≡ Some xs → xs ≡ bs)
    → known_too o os ≡ Some cs → cs ≡ b ∷ bs
known_once None os b bs cs h g e = cc
known_once (Some x) None b bs cs h g e = cc
known_once (Some x) (Some xs) b bs cs h g e = let here = h x refl in let rest = g xs refl in cc

module _ (r : Reading Site) (d : Data) (n : ℕ) where
  here_told : (q : asking.Question Site) (b c : Bool) → IsTold verdicts r q.site (whole (value_after d q.step)) b → told verdicts r n q.site (asked_at (whole d) q) ≡ Some c → c ≡ b
  here_told q b c h e =
      let there = is_told_same r q.site (asked_at (whole d) q) (whole (value_after d q.step)) c refl (record { unfoldings = n; is = e }) in
      told_once verdicts r there.unfoldings h.unfoldings q.site (whole (value_after d q.step)) c b there.is h.is

  known_told : (qs : List (asking.Question Site)) (bs cs : List Bool) → AreTold r d qs bs → all_known (map (λ q. told verdicts r n q.site (asked_at (whole d) q)) qs) ≡ Some cs → cs ≡ bs
  known_told [] [] cs h e = cc
  known_told [] (b ∷ bs) cs h e = elim h [ ]
  known_told (q ∷ qs) [] cs h e = elim h [ ]
  known_told (q ∷ qs) (b ∷ bs) cs h e = known_once _ _ b bs cs (λ c i. here_told q b c h.0 i) (λ xs i. known_told qs bs xs h.1 i) e

-- ---- the answers to the code's questions

module _ (c : code.Site) (d : Data) where
  abbrev pub AreAnswered : List Question → List Bool → Type 0
  AreAnswered [] [] = Unit {0}
  AreAnswered [] (b ∷ bs) = ⊥
  AreAnswered (q ∷ qs) [] = ⊥
  AreAnswered (q ∷ qs) (b ∷ bs) = IsAnswered c d q b × AreAnswered qs bs

  as_many : (qs : List Question) (bs : List Bool) → AreAnswered qs bs → length bs ≡ length qs
  as_many [] [] h = refl
  as_many [] (b ∷ bs) h = elim h [ ]
  as_many (q ∷ qs) [] h = elim h [ ]
  as_many (q ∷ qs) (b ∷ bs) h = ap suc (as_many qs bs h.1)

  -- those that are left, and how many of the others are answered yes
  pub record Tallied (all rest : List Question) (n : ℕ) : Type 0 where
    pub among : (q : Question) → In q rest → In q all
    pub answers : (cs : List Bool) → AreAnswered rest cs → (bs : List Bool) × AreAnswered all bs × (count_true bs ≡ n + count_true cs)

  pub tallied_first : (all : List Question) → Tallied all all 0
  tallied_first all = record { among = λ q i. i; answers = λ cs h. (cs, h, omega arith) }

  pub tallied_yes : (all rest : List Question) (q : Question) (n : ℕ) → IsAnswered c d q true → Tallied all (q ∷ rest) n → Tallied all rest (n + 1)
  tallied_yes all rest q n answer t = record {
    among = λ p i. t.among p (later i);
    answers = λ cs h.
        let w = t.answers (true ∷ cs) (answer, h) in
        let counted : count_true w.0 ≡ n + suc (count_true cs) = w.2 in (w.0, w.1, omega (arith, counted));
  }

  pub tallied_no : (all rest : List Question) (q : Question) (n : ℕ) → IsAnswered c d q false → Tallied all (q ∷ rest) n → Tallied all rest n
  tallied_no all rest q n answer t = record {
    among = λ p i. t.among p (later i);
    answers = λ cs h. let w = t.answers (false ∷ cs) (answer, h) in (w.0, w.1, w.2);
  }

  module _ (a : Applicator) (all : List Question) (are : AreAsked (reads c.matches.now) a d all) (by_answers : is_by_answers a ≡ true) where
    are_told : (x : Scene) (s : Site) (k : List ℕ) → Stage c d k (applied_row a x s) x s → (qs : List Question) (bs : List Bool) → ((q : Question) → In q qs → In q all) → AreAnswered qs bs
        → AreTold (reading_of x) d (questions_of (below x.documents s) qs) bs
    are_told x s k stage [] [] among h = tt
    are_told x s k stage [] (b ∷ bs) among h = elim h [ ]
    are_told x s k stage (q ∷ qs) [] among h = elim h [ ]
    are_told x s k stage (q ∷ qs) (b ∷ bs) among h =
        let site = below x.documents s in
        let there = subst (λ ks. In (question_of site q) ks) (asked_there c d a all are x s stage.meets) (in_mapped (question_of site) q all (among q first)) in
        (h.0.told a by_answers x s k there stage, are_told x s k stage qs bs (λ p i. among p (later i)) h.1)

    pub tallied : (n : ℕ) → depth (view c.contents.now) ≤ deepest (documents_at c) → Tallied all [] n → AreCounted c d a (length all) n
    tallied n shallow t = record {
      answers = λ x s k stage.
          let w = t.answers [] tt in
          let bs = w.0 in
          let site = below x.documents s in
          let row = applied_row a x s in
          let r = reading_of x in
          let word : Rule Site = rule x.matches d (shape_of site a) in
          let here = told_there x s d (meets_shallow c x s stage.meets shallow) stage.straight in
          let known = answers_there r s d _ here word (rules_stand x.documents x.makes x.matches s row d stage.stands word first) in
          let each = subst (λ qs. AreTold r d qs bs) (asked_there c d a all are x s stage.meets) (are_told x s k stage all bs (λ q i. i) w.1) in
          let same : known.0 ≡ bs = known_told r d known.1.unfoldings (asks word) bs known.0 each known.1.are in
          let counted : count_true bs ≡ n + 0 = w.2 in
          (bs, subst (λ xs. AreAnswers r (whole d) word xs) same known.1, as_many all bs w.1, omega (arith, counted));
    }

-- ---- the keyword

module _ (c : code.Site) (d : Data) (a : Applicator) (n m : ℕ) (name : List ℕ) (by_answers : is_by_answers a ≡ true) (plain : has_notes a ≡ false) (counted : AreCounted c d a n m) where
  abbrev the_rule : Scene → Site → Rule Site
  the_rule x s = rule x.matches d (shape_of (below x.documents s) a)

  abbrev Staged : Scene → Site → Type 0
  Staged x s = Stage c d name (applied_row a x s) x s

  abbrev Refuses : Scene → Site → Type 0
  Refuses x s = SomeRefusesAt name (reading_of x) d (the_rule x s ∷ [])

  -- it refuses by the answers that were counted, and under the name by their number
  by_them : (x : Scene) (s : Site) → Staged x s → Refuses x s
      → (bs : List Bool) × (length bs ≡ n) × (count_true bs ≡ m) × (accepts (the_rule x s) bs ≡ false) × (refuses_at (the_rule x s) bs ≡ at name)
  by_them x s stage h = by h.0 h.1 h.2 h.3 h.4 h.5
    where
      by : (k : Rule Site) (cs : List Bool) → In k (the_rule x s ∷ []) → AreAnswers (reading_of x) (whole d) k cs → accepts k cs ≡ false → refuses_at k cs ≡ at name
          → (bs : List Bool) × (length bs ≡ n) × (count_true bs ≡ m) × (accepts (the_rule x s) bs ≡ false) × (refuses_at (the_rule x s) bs ≡ at name)
      by _ cs first other wrong named =
          let w = counted.answers x s name stage in
          let same : cs ≡ w.0 = answers_once verdicts (reading_of x) other.unfoldings w.1.unfoldings (whole d) (asks (the_rule x s)) cs w.0 other.are w.1.are in
          (w.0, w.2, w.3, subst (λ xs. accepts (the_rule x s) xs ≡ false) same wrong, subst (λ xs. refuses_at (the_rule x s) xs ≡ at name) same named)
      by k cs (later i) other wrong named = elim i [ ]

  decided_by : (b : Bool) (x : Scene) (s : Site) → Decides a d n m b → refused_name a m ≡ name → Staged x s → IsDecided (not b) (Refuses x s)
  decided_by false x s decides same stage =
      let w = counted.answers x s name stage in
      let site = below x.documents s in
      let wrong : accepts (the_rule x s) w.0 ≡ false = decides.is by_answers plain site x.matches w.0 w.2 w.3 in
      let under = refused_under site x.matches w.0 a d by_answers (as_many_answers (reading_of x) d (the_rule x s) w.0 w.1) wrong in
      (the_rule x s, w.0, first, w.1, wrong, under ∙ ap (λ j. at (refused_name a j)) w.3 ∙ ap at same)
  decided_by true x s decides same stage = λ h.
      let w = by_them x s stage h in
      true≢false (sym (decides.is by_answers plain (below x.documents s) x.matches w.0 w.1 w.2) ∙ w.3)

  pub by_count : (b : Bool) → Decides a d n m b → refused_name a m ≡ name → IsRefusalAt c d (code.Applicator a) name (not b)
  by_count b decides same = record { decides = λ x s stage. decided_by b x s decides same stage }

  -- under no other name
  pub by_other : (refused_name a m ≡ name → ⊥) → IsRefusalAt c d (code.Applicator a) name false
  by_other other = record {
    decides = λ x s stage h.
        let w = counted.answers x s name stage in
        let site = below x.documents s in
        let v = by_them x s stage h in
        let many : length v.0 ≡ length (asks (the_rule x s)) = v.1 ∙ sym w.2 ∙ as_many_answers (reading_of x) d (the_rule x s) w.0 w.1 in
        let under = refused_under site x.matches v.0 a d by_answers many v.3 ∙ ap (λ j. at (refused_name a j)) v.2 in
        other (one_part (refused_name a m) name (sym under ∙ v.4));
  }
