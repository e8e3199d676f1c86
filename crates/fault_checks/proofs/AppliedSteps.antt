-- Steps by keywords that apply subschemas, by their questions.
use Rattle.std.proofs.Common.{◌≡◌, ◌∙◌, ◌++◌, ◌≤◌, ℕ, List, [], ◌∷◌, Bool, true, false, Bor, Option, None, length, reverse, refl, sym, ap, subst, append_assoc}
use Rattle.std.proofs.lemmas.List.{length-map}
use Rattle.serde_json.specs.Data.{Data}
use Rattle.serde_json.specs.View.{view}
use Rattle.json_values.specs.Parts.{Part, name}
use Rattle.json_values.specs.Pointers.{escape}
use Rattle.schema_meaning.specs.Members.{In, first}
use Rattle.schema_meaning.specs.Places.{whole, value_after, path_after, called_after}
use Rattle.schema_meaning.specs.Questions as told
use Rattle.schema_meaning.specs.Rules.{Rule, obliged, refuses_at}
use Rattle.schema_meaning.specs.Keywords.{rule}
use Rattle.schema_meaning.specs.Circular.{IsCircular}
use Rattle.schema_definitions.specs.Sites.{Site, below}
use Rattle.schema_definitions.specs.PathTexts.{path_text}
use Rattle.applicators.specs.Shapes.{shape_of, place_of, added_at}
use Rattle.applicators.specs.Combined.{name_of, combining_of, asks_of, asks_values}
use Rattle.applicators.specs.Questions.{step_of, question_of, questions_of}
use Rattle.applicators.specs.Applied.{Applicator}
use Rattle.applicators.specs.Asks.{form_by}
use Rattle.applicators.specs.Forms.{Form, shape_by}
use Rattle.applicators.specs.declared.combining.Combining.{Combining}
use Rattle.applicators.proofs.FormLemmas.{IsKeyword, counted_items, chosen_by}
use Rattle.applicators.proofs.CombinedLemmas.{is_keyword}
use Rattle.applicators.specs.declared.question.Question.{Question}
use Rattle.plain_reader.proofs.Sound.{questions_are_sound}
use Rattle.certificate_laws.specs.Spelled.{AreSpelled}
use Rattle.certificate_laws.proofs.Answers.{answers_there}
use Rattle.certificate_laws.specs.Words.{IsOf, Bears, IsRest}
use Rattle.certificate_laws.proofs.Cuts.{rest_of}
use Rattle.certificate_laws.proofs.Begun.{shape_begins, shape_bears, rules_stand}
use Rattle.certificate_laws.proofs.Listed.{in_mapped}
use Rattle.fault_paths.specs.Texts.{text_left}
use Rattle.fault_paths.proofs.TextFacts.{rest_left, tail_is, behind_same}
use Rattle.reading_laws.proofs.Elements as elements
use Rattle.fault_paths.specs.Behind.{entry_parts}
use Rattle.fault_paths.specs.Ahead.{LeadsOn, NoneAhead, IsAhead, IsNoLonger}
use Rattle.fault_paths.specs.Laws.{OneAhead}
use Rattle.fault_paths.specs.declared.ahead.Ahead.{Ahead}
use Rattle.fault_paths.proofs.AddedFacts.{added_parts, added_text}
use Rattle.fault_paths.proofs.UnnamedFacts.{asks_no_name}
use Rattle.schema_patterns.specs.Read.{reads}
use Rattle.fault_checks.specs.Passed.{AreAsked}
use Rattle.fault_checks.specs.Scenes.{Scene, reading_of}
use Rattle.fault_checks.specs.Rows.{applied_row, applied_questions}
use Rattle.fault_checks.specs.Verdicts.{AppliesIn}
use Rattle.fault_checks.proofs.Passed.{Child}
use Rattle.fault_checks.proofs.AppliedQuestions.{asked_there}
use Rattle.fault_checks.proofs.Right.{told_there, right_on, asked_back}
use Rattle.fault_checks.proofs.Children.{meets_shallow, child_meets}
use Rattle.fault_checks.specs.declared.walk.Walk.{Walk}
use Rattle.fault_checks.specs.declared.walk.Step.{Step}
use Rattle.fault_checks.specs.declared.walk.Step.TheVariants.{Answered, On, Named}
use Rattle.fault_checks.specs.Steps.{IsLeft, IsMore, IsNotLonger, GoesInto, LeadsInto, PassesThrough}
use Rattle.fault_paths.specs.Obliged.{obliges_by, obliges}
use Rattle.applicators.proofs.Asking.{by_answers}
use Rattle.fault_checks.proofs.ObligedFacts.{AllOrNone, all_or_none}
use Rattle.fault_checks.proofs.Going.{Goes, going_by, gone_by, not_named}

-- ---- a keyword whose questions oblige refuses under its own name

one_of : (m : List ℕ) (n : ℕ) (k : List ℕ) (c : Combining) (f : Form Site) → IsKeyword k c f → obliges_by c n ≡ true → Bears m (shape_by k c f) → IsOf m (shape_by k c f)
one_of m n _ _ _ (counted_items least most s) obliging is = cc
one_of m n _ _ _ (chosen_by s t e) obliging is = cc
one_of m n _ _ _ keyword obliging is = is

is_one : (site : List Part → Data → Site) (a : Applicator) (k : List ℕ) (n : ℕ) → obliges a n ≡ true → Bears k (shape_of site a) → IsOf k (shape_of site a)
is_one site a k n obliging is = one_of k n (name_of a) (combining_of a) (form_by site (name_of a) (asks_of a)) (is_keyword site a) obliging is

-- ---- the last part

abbrev last_of : Part → List Part → Part
last_of p [] = p
last_of p (q ∷ ps) = last_of q ps

last_is : (p q : Part) (ps : List Part) → last_of p (ps ++ q ∷ []) ≡ q
last_is p q [] = refl
last_is p q (r ∷ ps) = last_is r q ps

one_last : (p q : Part) (ps qs : List Part) → ps ++ p ∷ [] ≡ qs ++ q ∷ [] → p ≡ q
one_last p q ps qs e = sym (last_is p p ps) ∙ ap (last_of p) e ∙ last_is p q qs

one_name : (k n : List ℕ) → name k ≡ name n → k ≡ n
one_name k n e = cc

module _ (x : Scene) (s : Site) (d : Data) (a : Applicator) (values : asks_values a ≡ true) (n : List ℕ) (of : Bears n (shape_of (below x.documents s) a)) (plain : escape n ≡ n) where
  abbrev the_rule : Rule Site
  the_rule = rule x.matches d (shape_of (below x.documents s) a)

  abbrev all : List (told.Question Site)
  all = applied_questions a d x s

  -- where something is left, the keyword is not the last
  not_here : (instance after : Option (Bor (List ℕ))) → IsMore instance after → (bs : List Bool) → text_left instance ≡ [] → 47 ∷ (n ++ text_left after) ≡ path_text (refuses_at the_rule bs) → ⊥
  not_here instance after more bs none is =
      let begins = shape_bears x.matches d n (shape_of (below x.documents s) a) of in
      not_named instance after n (begins.name bs) more plain none (is ∙ ap path_text (begins.own bs))

  module _ (qs : List Question) (are : questions_of (below x.documents s) qs ≡ all) where
    -- all of its questions oblige, or none
    steps_are : (b : Bool) → obliges a (length qs) ≡ b → (bs : List Bool) → AllOrNone b all (obliged the_rule bs)
    steps_are b is bs =
        let site = below x.documents s in
        subst (λ c. AllOrNone c all (obliged the_rule bs)) is
        (all_or_none site x.matches d bs a (length qs) (by_answers a values) (ap length (sym are) ∙ length-map qs (question_of site)))

    asked_here : (q : Question) → In q qs → In (question_of (below x.documents s) q) all
    asked_here q i = subst (λ ks. In (question_of (below x.documents s) q) ks) are (elements.in_mapped (question_of (below x.documents s)) q qs i)

  module _ (qs : List Question) (are : questions_of (below x.documents s) qs ≡ all) (obliging : obliges a (length qs) ≡ true) where
    -- a question's keyword is the one that asks it
    keyword_is : (q : Question) → In q qs → q.subschema.keyword.now ≡ n
    keyword_is q i =
        let k = q.subschema.keyword.now in
        let e = q.subschema.entry in
        let there : In (question_of (below x.documents s) q) (obliged the_rule []) =
        subst (λ ks. In (question_of (below x.documents s) q) ks) (sym (steps_are qs are true obliging [])) (asked_here qs are q i) in
        let begins = (shape_begins x.matches d n (shape_of (below x.documents s) a) (is_one (below x.documents s) a n (length qs) obliging of)).on [] (question_of (below x.documents s) q) there in
        one_name k n (one_last (name k) (name n) (entry_parts e) begins.0 (sym (added_parts k e) ∙ begins.1))

    -- what it adds to the road
    added_is : (q : Question) → In q qs → (rest : List ℕ) → path_text (added_at q.subschema.keyword.now q.subschema.entry) ++ rest ≡ 47 ∷ (n ++ (path_text (entry_parts q.subschema.entry) ++ rest))
    added_is q i rest =
        let k = q.subschema.keyword.now in
        let e = q.subschema.entry in
        ap (λ t. t ++ rest) (added_text k e) ∙ append_assoc (47 ∷ escape k) (path_text (entry_parts e)) rest
        ∙ ap (λ t. 47 ∷ (t ++ (path_text (entry_parts e) ++ rest))) (ap escape (keyword_is q i) ∙ plain)

    -- the question by which a certificate goes on
    came : (i after : List ℕ) → Goes (reading_of x) d all i (47 ∷ (n ++ after)) → (q : Question) × In q qs × (left_i : List ℕ) × (left_e : List ℕ) × IsRest left_i × IsRest left_e × LeadsOn q i after left_i left_e
        × AreSpelled (reading_of x) (place_of (below x.documents s) q.subschema) (value_after d (step_of q.asked)) left_i left_e
    came i after g =
        let site = below x.documents s in
        let w = in_mapped (question_of site) qs (subst (λ ks. In g.question ks) (sym are) g.asked) in
        let q = w.0 in
        let at_instance : i ≡ path_text (path_after [] (step_of q.asked)) ++ g.instance = g.at_instance ∙ ap (λ (p : told.Question Site). path_text (path_after [] p.step) ++ g.instance) (sym w.2) in
        let text : 47 ∷ (n ++ after) ≡ 47 ∷ (n ++ (path_text (entry_parts q.subschema.entry) ++ g.evaluation)) =
        g.on_evaluation ∙ ap (λ (p : told.Question Site). path_text p.added ++ g.evaluation) (sym w.2) ∙ added_is q w.1 g.evaluation in
        let under : AreSpelled (reading_of x) (place_of site q.subschema) (value_after d (step_of q.asked)) g.instance g.evaluation =
        subst (λ (p : told.Question Site). AreSpelled (reading_of x) p.site (value_after d p.step) g.instance g.evaluation) (sym w.2) g.under in (
          q,
          w.1,
          g.instance,
          g.evaluation,
          subst IsRest (sym under.instance_text) (rest_of (reverse under.instance_path)),
          subst IsRest (sym under.evaluation_text) (rest_of (reverse under.evaluation_path)),
          record { at_instance = at_instance; on_evaluation = behind_same n _ _ (tail_is 47 _ _ text) },
          under,
        )

    -- and back
    goes_by : (q : Question) → In q qs → (i after left_i left_e : List ℕ) → LeadsOn q i after left_i left_e
        → AreSpelled (reading_of x) (place_of (below x.documents s) q.subschema) (value_after d (step_of q.asked)) left_i left_e → Goes (reading_of x) d all i (47 ∷ (n ++ after))
    goes_by q j i after left_i left_e leads under = record {
      question = question_of (below x.documents s) q;
      asked = asked_here qs are q j;
      instance = left_i;
      evaluation = left_e;
      under = under;
      at_instance = leads.at_instance;
      on_evaluation = ap (λ t. 47 ∷ (n ++ t)) leads.on_evaluation ∙ sym (added_is q j left_e);
    }

-- ---- the steps

-- by a keyword none of whose questions obliges
pub applied_never : (w : Walk) (a : Applicator) (after : Option (Bor (List ℕ))) (qs : List Question) → AreAsked (reads w.site.matches.now) a (view w.value.now) qs → asks_values a ≡ true → IsMore w.instance after
    → obliges a (length qs) ≡ false → PassesThrough w (applied_row a) after (Answered false)
applied_never w a after qs are values more never = record {
  outcome = λ x s n stage h.
      let d = view w.value.now in
      let of = stage.named.0 in
      let plain = stage.plain _ first in
      let here = asked_there w.site d a qs are x s stage.meets in
      let g = going_by (reading_of x) d (the_rule x s d a values n of plain) [] _ _ (steps_are x s d a values n of plain qs here false never)
      (not_here x s d a values n of plain w.instance after more) h in
      elim g.asked [ ];
}

pub applied_nowhere : (w : Walk) (a : Applicator) (after : Option (Bor (List ℕ))) (qs : List Question) → AreAsked (reads w.site.matches.now) a (view w.value.now) qs → asks_values a ≡ true → IsMore w.instance after
    → obliges a (length qs) ≡ true → NoneAhead qs (text_left w.instance) (text_left after) → PassesThrough w (applied_row a) after (Answered false)
applied_nowhere w a after qs are values more obliging nowhere = record {
  outcome = λ x s n stage h.
      let d = view w.value.now in
      let of = stage.named.0 in
      let plain = stage.plain _ first in
      let here = asked_there w.site d a qs are x s stage.meets in
      let g = going_by (reading_of x) d (the_rule x s d a values n of plain) (applied_questions a d x s) _ _ (steps_are x s d a values n of plain qs here true obliging)
      (not_here x s d a values n of plain w.instance after more) h in
      let c = came x s d a values n of plain qs here obliging (text_left w.instance) (text_left after) g in
      nowhere.none c.0 c.1 c.2 c.3 c.4 c.5 c.6;
}

pub applied_on : (w v : Walk) (a : Applicator) (after : Option (Bor (List ℕ))) (qs : List Question) (b : Ahead) → AreAsked (reads w.site.matches.now) a (view w.value.now) qs → AppliesIn w.site a → asks_values a ≡ true → IsMore w.instance after
    → obliges a (length qs) ≡ true → OneAhead a (view w.value.now) → IsAhead qs (text_left w.instance) (text_left after) b → GoesInto w b v → PassesThrough w (applied_row a) after (On v)
applied_on w v a after qs b are applies values more obliging once ahead into = record {
  outcome = λ x s n stage.
      let d = view w.value.now in
      let i = text_left w.instance in
      let e = 47 ∷ (n ++ text_left after) in
      let of = stage.named.0 in
      let plain = stage.plain _ first in
      let here = asked_there w.site d a qs are x s stage.meets in
      let row = applied_row a x s in
      let site = below x.documents s in
      let q = b.question in
      let schema = view q.subschema.schema.now in
      let asks_it = question_of site q in
      let inner = place_of site q.subschema in
      let the = rule x.matches d (shape_of site a) in
      let steps = steps_are x s d a values n of plain qs here true obliging in
      let asked = asked_here x s d a values n of plain qs here q ahead.among in
      let sound = questions_are_sound site x.matches d a applies.by_answers asks_it asked in
      let unnamed : called_after None (step_of q.asked) ≡ None = asks_no_name site x.matches d asks_it a values asked in
      let decided = told_there x s d (meets_shallow w.site x s stage.meets w.shallow) stage.straight in
      let bs = answers_there (reading_of x) s d _ decided the (rules_stand x.documents x.makes x.matches s row d stage.stands the first) in
      let child : Child w.site v.site schema = record { contents = into.contents; documents = into.documents; scope = into.scope; stands = λ t added. into.stands t added; matches = into.matches } in
      let meets = child_meets w.site v.site schema (added_at q.subschema.keyword.now q.subschema.entry) x s child stage.meets (right_on x s row inner stage.meets.right stage.stands sound.led) in
      let spelled_at = λ (f : Data) (t u : Option (Bor (List ℕ))). AreSpelled (reading_of x) inner f (text_left t) (text_left u) in
      let shift = λ (h : AreSpelled (reading_of x) inner (value_after d (step_of q.asked)) (text_left b.instance) (text_left b.evaluation)).
      subst (λ (f : Data). spelled_at f v.instance v.evaluation) (sym (into.value unnamed))
      (subst (λ (t : Option (Bor (List ℕ))). spelled_at (value_after d (step_of q.asked)) t v.evaluation) (sym into.instance)
      (subst (λ (u : Option (Bor (List ℕ))). spelled_at (value_after d (step_of q.asked)) b.instance u) (sym into.evaluation) h)) in
      let unshift = λ (h : IsLeft x v inner).
      subst (λ (u : Option (Bor (List ℕ))). spelled_at (value_after d (step_of q.asked)) b.instance u) into.evaluation
      (subst (λ (t : Option (Bor (List ℕ))). spelled_at (value_after d (step_of q.asked)) t v.evaluation) into.instance
      (subst (λ (f : Data). spelled_at f v.instance v.evaluation) (into.value unnamed) h)) in
      record {
        site = inner;
        meets = meets;
        back = λ circular.
            asked_back x s row d (shape_of site a) asks_it stage.stands first asked (subst (λ (f : Data). IsCircular (reading_of x) inner (whole f)) (into.value unnamed) circular);
        to = λ h.
            let g = going_by (reading_of x) d the (applied_questions a d x s) i e steps (not_here x s d a values n of plain w.instance after more) h in
            let c = came x s d a values n of plain qs here obliging i (text_left after) g in
            let on_road = ap (λ t. 47 ∷ (n ++ t)) c.6.on_evaluation ∙ sym (added_is x s d a values n of plain qs here obliging c.0 c.1 c.3) in
            let on_own = ap (λ t. 47 ∷ (n ++ t)) ahead.leads.on_evaluation ∙ sym (added_is x s d a values n of plain qs here obliging q ahead.among (text_left b.evaluation)) in
            let one : question_of site c.0 ≡ asks_it =
            once values site x.matches (question_of site c.0) asks_it (asked_here x s d a values n of plain qs here c.0 c.1) asked i e c.2 c.3 (text_left b.instance) (text_left b.evaluation) c.4 c.5
            (rest_left b.instance) (rest_left b.evaluation) c.6.at_instance on_road ahead.leads.at_instance on_own in
            let same_i : c.2 ≡ text_left b.instance =
            behind_same (path_text (path_after [] (step_of q.asked))) c.2 (text_left b.instance)
            (sym (c.6.at_instance ∙ ap (λ (p : told.Question Site). path_text (path_after [] p.step) ++ c.2) one) ∙ ahead.leads.at_instance) in
            let same_e : c.3 ≡ text_left b.evaluation =
            behind_same (path_text (added_at q.subschema.keyword.now q.subschema.entry)) c.3 (text_left b.evaluation)
            (sym (on_road ∙ ap (λ (p : told.Question Site). path_text p.added ++ c.3) one) ∙ on_own) in
            let under = subst (λ (p : told.Question Site). AreSpelled (reading_of x) p.site (value_after d p.step) c.2 c.3) one c.7 in
            shift
            (subst (λ (t : List ℕ). AreSpelled (reading_of x) inner (value_after d (step_of q.asked)) t (text_left b.evaluation)) same_i
            (subst (λ (u : List ℕ). AreSpelled (reading_of x) inner (value_after d (step_of q.asked)) c.2 u) same_e under));
        from = λ under.
            gone_by (reading_of x) d the (applied_questions a d x s) i e bs.0 steps bs.1
            (goes_by x s d a values n of plain qs here obliging q ahead.among i (text_left after) (text_left b.instance) (text_left b.evaluation) ahead.leads (unshift under));
      };
}

pub applied_to : (w : Walk) (a : Applicator) (after : Option (Bor (List ℕ))) (qs : List Question) (b : Ahead) (step : Step) → AreAsked (reads w.site.matches.now) a (view w.value.now) qs → AppliesIn w.site a → asks_values a ≡ true → IsMore w.instance after
    → obliges a (length qs) ≡ true → OneAhead a (view w.value.now) → IsAhead qs (text_left w.instance) (text_left after) b → LeadsInto w b step → PassesThrough w (applied_row a) after step
applied_to w a after qs b (Answered r) are applies values more obliging once ahead into = absurd into
applied_to w a after qs b (Named n) are applies values more obliging once ahead into = absurd into
applied_to w a after qs b (On v) are applies values more obliging once ahead into = applied_on w v a after qs b are applies values more obliging once ahead into

pub applied_shorter : (w : Walk) (after : Option (Bor (List ℕ))) (b : Ahead) (step : Step) → IsNoLonger (text_left after) b → LeadsInto w b step → IsNotLonger after step
applied_shorter w after b (Answered r) shorter into = absurd into
applied_shorter w after b (Named n) shorter into = absurd into
applied_shorter w after b (On v) shorter into = subst (λ (u : Option (Bor (List ℕ))). length (text_left u) ≤ length (text_left after)) (sym into.evaluation) shorter
