-- Whether the questions of applicators are answered no, one after another.
use Rattle.std.proofs.Common.{◌≡◌, ◌∙◌, ◌≤◌, ℕ, List, [], ◌∷◌, Bool, true, false, Bor, String, Global, string_bytes, rules, refl, sym, ap, subst}
use Rattle.serde_json.specs.Data.{Data, string, depth}
use Rattle.serde_json.specs.View.{view}
use Rattle.serde_json.specs.declared.value.Value.{Value, String as Text, the_lemmas}
use Rattle.schema_meaning.specs.Members.{In, first, later}
use Rattle.schema_meaning.specs.Places.{whole, value_after}
use Rattle.schema_meaning.specs.Questions as told
use Rattle.schema_meaning.specs.Questions.{at}
use Rattle.schema_meaning.specs.Rules.{every, asks}
use Rattle.schema_meaning.specs.Keywords.{rule}
use Rattle.schema_meaning.specs.Readings.{verdicts, IsTold}
use Rattle.schema_definitions.specs.Sites.{Site, below}
use Rattle.schema_definitions.specs.Plain.{deepest}
use Rattle.applicators.specs.Shapes.{shape_of, place_of, added_at}
use Rattle.applicators.specs.Combined.{is_every, is_by_answers, name_of, notes_by}
use Rattle.applicators.specs.Questions.{step_of, question_of, questions_of}
use Rattle.applicators.specs.Applied.{Applicator}
use Rattle.applicators.specs.declared.question.Asked.{Asked}
use Rattle.applicators.specs.declared.question.Asked.TheVariants as asked
use Rattle.applicators.specs.declared.question.Question.{Question}
use Rattle.applicators.proofs.CombinedLemmas.{every_rule}
use Rattle.plain_reader.proofs.Sound.{questions_are_sound}
use Rattle.reading_laws.proofs.Elements as elements
use Rattle.schema_patterns.specs.Read.{reads}
use Rattle.plain_reader.specs.Applied.{AreAsked}
use Rattle.plain_reader.specs.Passed.{documents_at}
use Rattle.plain_reader.specs.Passed as code
use Rattle.plain_reader.proofs.ChildVerdicts.{Child}
use Rattle.certificate_laws.proofs.Listed.{in_mapped}
use Rattle.fault_checks.specs.Scenes.{Scene, reading_of, Meets}
use Rattle.fault_checks.specs.Rows.{applied_row, applied_questions}
use Rattle.fault_checks.specs.Verdicts.{AreRefused, IsVerdict, IsAnswered, IsRefusal}
use Rattle.fault_checks.proofs.Right.{right_on, asked_back}
use Rattle.fault_checks.proofs.Children.{child_meets}
use Rattle.fault_checks.proofs.Gathered.{by_questions}

-- ---- what is asked of

pub view_text : (s : String Global) → view (Text s) ≡ string (string_bytes s)
view_text s = search (rules, the_lemmas)

module _ (c : code.Site) (d : Data) (b : Bool) where
  pub verdict_of_value : (a : Asked) → a ≡ asked.Value → IsVerdict c d b → IsVerdict c (value_after d (step_of a)) b
  verdict_of_value a is h = subst (λ (x : Asked). IsVerdict c (value_after d (step_of x)) b) (sym is) h

  pub verdict_of_item : (a : Asked) (i : ℕ) (e : Bor Value) → a ≡ asked.Item i e → IsVerdict c (view e.now) b → IsVerdict c (value_after d (step_of a)) b
  verdict_of_item a i e is h = subst (λ (x : Asked). IsVerdict c (value_after d (step_of x)) b) (sym is) h

  pub verdict_of_member : (a : Asked) (k : Bor (List ℕ)) (e : Bor Value) → a ≡ asked.Member k e → IsVerdict c (view e.now) b → IsVerdict c (value_after d (step_of a)) b
  verdict_of_member a k e is h = subst (λ (x : Asked). IsVerdict c (value_after d (step_of x)) b) (sym is) h

  pub verdict_of_name : (a : Asked) (k : Bor (List ℕ)) (e : Value) → a ≡ asked.Name k → view e ≡ string k.now → IsVerdict c (view e) b → IsVerdict c (value_after d (step_of a)) b
  verdict_of_name a k e is text h = subst (λ (x : Asked). IsVerdict c (value_after d (step_of x)) b) (sym is) (subst (λ f. IsVerdict c f b) text h)

-- ---- the answer to one question

pub answered : (c b : code.Site) (d : Data) (q : Question) (v : Bool) → Child c b (view q.subschema.schema.now) → IsVerdict b (value_after d (step_of q.asked)) v → IsAnswered c d q v
answered c b d q v child verdict = record {
  told = λ a by_answers x s k i stage.
      let site = below x.documents s in
      let row = applied_row a x s in
      let inner = place_of site q.subschema in
      let sound = questions_are_sound site x.matches d a by_answers (question_of site q) i in
      let right = right_on x s row inner stage.meets.right stage.stands sound.led in
      let meets = child_meets c b (view q.subschema.schema.now) (added_at q.subschema.keyword.now q.subschema.entry) x s child stage.meets right in
      verdict.told x inner meets (λ circular. stage.straight (asked_back x s row d (shape_of site a) (question_of site q) stage.stands first i circular));
}

-- ---- one question after another

-- by the matches of a scene
pub asked_there : (c : code.Site) (d : Data) (a : Applicator) (qs : List Question) → AreAsked (reads c.matches.now) a d qs → (x : Scene) (s : Site) → Meets c x s
    → questions_of (below x.documents s) qs ≡ applied_questions a d x s
asked_there c d a qs are x s meets =
    let site = below x.documents s in are site ∙ ap (λ (m : List ℕ → List ℕ → Bool). asks (rule m d (shape_of site a))) (sym meets.matches)

module _ (c : code.Site) (d : Data) (a : Applicator) (qs : List Question) (are : AreAsked (reads c.matches.now) a d qs) (by_answers : is_by_answers a ≡ true) where
  pub there : (x : Scene) (s : Site) → Meets c x s → (q : Question) → In q qs → In (question_of (below x.documents s) q) (applied_questions a d x s)
  there x s meets q i = subst (λ ks. In (question_of (below x.documents s) q) ks) (asked_there c d a qs are x s meets) (elements.in_mapped (question_of (below x.documents s)) q qs i)

  pub one_refused : (q : Question) → In q qs → IsAnswered c d q false → AreRefused c d (applied_row a) (applied_questions a d) true
  one_refused q i answer = record {
    answers = λ x s k stage. (question_of (below x.documents s) q, there x s stage.meets q i, answer.told a by_answers x s k (there x s stage.meets q i) stage);
  }

  pub none_refused : ((q : Question) → In q qs → IsAnswered c d q true) → AreRefused c d (applied_row a) (applied_questions a d) false
  none_refused answers = record {
    answers = λ x s k stage p i.
        let site = below x.documents s in
        let w = in_mapped (question_of site) qs (subst (λ ks. In p ks) (sym (asked_there c d a qs are x s stage.meets)) i) in
        subst (λ (r : told.Question Site). IsTold verdicts (reading_of x) r.site (whole (value_after d r.step)) true) w.2
        ((answers w.0 w.1).told a by_answers x s k (there x s stage.meets w.0 w.1) stage);
  }

-- where all of the rest are accepted, all are
pub record Accepts (c : code.Site) (d : Data) (all rest : List Question) : Type 0 where
  pub accepts : ((q : Question) → In q rest → IsAnswered c d q true) → (q : Question) → In q all → IsAnswered c d q true
  pub among : (q : Question) → In q rest → In q all

pub accepts_first : (c : code.Site) (d : Data) (all : List Question) → Accepts c d all all
accepts_first c d all = record { accepts = λ h. h; among = λ q i. i }

pub accepts_more : (c : code.Site) (d : Data) (all rest : List Question) (q : Question) → IsAnswered c d q true → Accepts c d all (q ∷ rest) → Accepts c d all rest
accepts_more c d all rest q answer h = record { accepts = λ g. h.accepts (λ p i. both p g i); among = λ p i. h.among p (later i) }
  where
    both : (p : Question) → ((r : Question) → In r rest → IsAnswered c d r true) → In p (q ∷ rest) → IsAnswered c d p true
    both p g first = answer
    both p g (later i) = g p i

pub accepts_all : (c : code.Site) (d : Data) (all : List Question) → Accepts c d all [] → (q : Question) → In q all → IsAnswered c d q true
accepts_all c d all h = h.accepts (λ q i. elim i [ ])

-- ---- the keyword

pub by_applicator : (c : code.Site) (d : Data) (a : Applicator) (b : Bool) → depth (view c.contents.now) ≤ deepest (documents_at c) → is_every a ≡ true → notes_by a d ≡ []
    → AreRefused c d (applied_row a) (applied_questions a d) b → IsRefusal c d (code.Applicator a) b
by_applicator c d a b shallow each plain h =
    by_questions c d (code.Applicator a) (applied_row a) (at (name_of a)) (applied_questions a d) b shallow (λ x s. refl)
    (λ x s. ap (λ r. r ∷ []) (every_rule a each (below x.documents s) x.matches d ∙ ap (λ notes. every (at (name_of a)) notes (applied_questions a d x s)) plain)) h
