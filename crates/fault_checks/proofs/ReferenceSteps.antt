-- Steps by references, and by keywords that ask nothing.
use Rattle.std.proofs.Common.{◌≡◌, ◌∙◌, ◌++◌, ℕ, List, [], ◌∷◌, false, Bor, Option, map, refl, sym, ap, subst}
use Rattle.std.specs.List.{AllByRecursion}
use Rattle.serde_json.specs.Data.{Data}
use Rattle.serde_json.specs.View.{view}
use Rattle.schema_meaning.specs.Members.{In, first, later}
use Rattle.schema_meaning.specs.Circular.{IsCircular}
use Rattle.schema_meaning.specs.Places.{whole, value_after, path_after}
use Rattle.schema_meaning.specs.Questions.{Question}
use Rattle.schema_meaning.specs.Questions as asking
use Rattle.schema_meaning.specs.Rules.{every}
use Rattle.schema_meaning.specs.Keywords.{Assertion, named, asserts, reference, rule, wrong}
use Rattle.schema_meaning.specs.Readings.{Reading}
use Rattle.schema_definitions.specs.Sites.{Site, target_site}
use Rattle.schema_definitions.specs.Rows.{Row}
use Rattle.fault_checks.specs.Passed.{target_in}
use Rattle.fault_checks.specs.Passed.{Resolved}
use Rattle.fault_checks.specs.Passed.{row_of}
use Rattle.fault_checks.specs.Passed.{Keyword}
use Rattle.schema_definitions.specs.PathTexts.{path_text}
use Rattle.certificate_laws.specs.Spelled.{AreSpelled, AreSpelledBy, refuses, goes}
use Rattle.certificate_laws.proofs.Answers.{answers_there}
use Rattle.certificate_laws.specs.Words.{Bears}
use Rattle.certificate_laws.proofs.Begun.{rules_stand}
use Rattle.fault_checks.specs.declared.walk.Walk.{Walk}
use Rattle.fault_checks.specs.declared.walk.Step.{Step}
use Rattle.fault_checks.specs.declared.walk.Step.TheVariants.{Answered, On}
use Rattle.fault_paths.specs.Texts.{text_left}
use Rattle.fault_checks.specs.Steps.{IsMore, Outcome, PassesThrough, PassesBy}
use Rattle.fault_checks.specs.Scenes.{Scene, reading_of, Stage}
use Rattle.fault_checks.specs.Passed.{kind_of, name_of}
use Rattle.fault_checks.specs.Passed.{ReferenceKeyword}
use Rattle.fault_checks.specs.Rows.{reference_row, reference_questions}
use Rattle.fault_checks.proofs.Right.{told_there, right_on, asked_back}
use Rattle.fault_checks.proofs.Children.{AtTarget, meets_shallow, target_meets}
use Rattle.fault_paths.proofs.TextFacts.{tail_is, behind_same}
use Rattle.fault_checks.proofs.Going.{name_text, going, gone, not_last}

only_one : {A : Type 0} (x y : A) → In y (x ∷ []) → y ≡ x
only_one x y first = refl
only_one x y (later i) = elim i [ ]

pub reference_on : (w v : Walk) (by : ReferenceKeyword) (text : List ℕ) (target : Resolved) (after : Option (Bor (List ℕ))) → IsMore w.instance after → AtTarget w.site v.site by text target
    → v.value ≡ w.value → v.instance ≡ w.instance → v.evaluation ≡ after → PassesThrough w (reference_row by text (target_in target)) after (On v)
reference_on w v by text target after more at value instance left = record {
  outcome = λ x s n stage.
      let t = target_in target in
      let d = view w.value.now in
      let plain = stage.plain _ first in
      let row = reference_row by text t x s in
      let site = target_site s text t in
      let qs = reference_questions by text t x s in
      let told = told_there x s d (meets_shallow w.site x s stage.meets w.shallow) stage.straight in
      let bs = answers_there (reading_of x) s d _ told (every (asking.at (name_of by)) [] qs) (rules_stand x.documents x.makes x.matches s row d stage.stands _ first) in
      let same : view v.value.now ≡ d = ap (λ (b : Bor _). view b.now) value in
      record {
        site = site;
        meets = target_meets w.site v.site by text target x s at stage.meets (right_on x s row site stage.meets.right stage.stands first);
        back = λ circular. asked_back x s row d (reference (kind_of by) site) _ stage.stands first first (subst (λ e. IsCircular (reading_of x) site (whole e)) same circular);
        to = λ h.
            let g = going (reading_of x) d (asking.at (name_of by)) [] qs _ _ (not_last w.instance after (name_of by) n more stage.named.0 plain) h in
            let q = only_one _ g.question g.asked in
            let there : text_left w.instance ≡ g.instance = g.at_instance ∙ ap (λ (p : Question Site). path_text (path_after [] p.step) ++ g.instance) q in
            let road : 47 ∷ (n ++ text_left after) ≡ 47 ∷ (n ++ g.evaluation) =
            g.on_evaluation ∙ ap (λ (p : Question Site). path_text p.added ++ g.evaluation) q ∙ ap (λ u. u ++ g.evaluation) (name_text (name_of by) n stage.named.0 plain) in
            let rest : text_left after ≡ g.evaluation = behind_same n (text_left after) g.evaluation (tail_is 47 _ _ road) in
            let under : AreSpelled (reading_of x) site d g.instance g.evaluation =
            subst (λ (p : Question Site). AreSpelled (reading_of x) p.site (value_after d p.step) g.instance g.evaluation) q g.under in
            subst (λ e. AreSpelled (reading_of x) site e (text_left v.instance) (text_left v.evaluation)) (sym same)
            (subst (λ i. AreSpelled (reading_of x) site d i (text_left v.evaluation)) (sym there ∙ ap text_left (sym instance))
            (subst (λ e. AreSpelled (reading_of x) site d g.instance e) (sym rest ∙ ap text_left (sym left)) under));
        from = λ under.
            let moved : AreSpelled (reading_of x) site d (text_left w.instance) (text_left after) =
            subst (λ e. AreSpelled (reading_of x) site e (text_left w.instance) (text_left after)) same
            (subst (λ i. AreSpelled (reading_of x) site (view v.value.now) (text_left i) (text_left after)) instance
            (subst (λ e. AreSpelled (reading_of x) site (view v.value.now) (text_left v.instance) (text_left e)) left under)) in
            gone (reading_of x) d (asking.at (name_of by)) [] qs (text_left w.instance) (47 ∷ (n ++ text_left after)) bs.0 bs.1
            (record {
              question = _;
              asked = first;
              instance = text_left w.instance;
              evaluation = text_left after;
              under = moved;
              at_instance = refl;
              on_evaluation = sym (ap (λ u. u ++ text_left after) (name_text (name_of by) n stage.named.0 plain));
            });
      };
}

-- ---- keywords that ask nothing

pub asserted_passes : (w : Walk) (k : Keyword) (a : Assertion) (n : List ℕ) (after : Option (Bor (List ℕ))) → IsMore w.instance after
    → ((x : Scene) (s : Site) → (row_of x.documents s k).shapes ≡ asserts a ∷ []) → PassesBy w k n after (Answered false)
asserted_passes w k a n after more is = record {
  outcome = λ x s stage h.
      let d = view w.value.now in
      let named_is : named a ≡ n = (subst (λ shapes. AllByRecursion (Bears n) shapes) (is x s) stage.named).0 in
      let plain = stage.plain (asserts a) (subst (λ shapes. In (asserts a) shapes) (sym (is x s)) first) in
      let one : AreSpelledBy (reading_of x) d (every (asking.at (named a)) (wrong x.matches a d) [] ∷ []) (text_left w.instance) (47 ∷ (n ++ text_left after)) =
      subst (λ shapes. AreSpelledBy (reading_of x) d (map (rule x.matches d) shapes) (text_left w.instance) (47 ∷ (n ++ text_left after))) (is x s) h in
      let g = going (reading_of x) d (asking.at (named a)) (wrong x.matches a d) [] _ _ (not_last w.instance after (named a) n more named_is plain) one in
      elim g.asked [ ];
}

no_rule : (r : Reading Site) (d : Data) (i e : List ℕ) → AreSpelledBy r d [] i e → ⊥
no_rule r d i e (refuses k bs j a wrong at on) = elim j [ ]
no_rule r d i e (goes k bs q x y j a o under at on) = elim j [ ]

pub nothing_passes : (w : Walk) (k : Keyword) (n : List ℕ) (after : Option (Bor (List ℕ))) → ((x : Scene) (s : Site) → (row_of x.documents s k).shapes ≡ []) → PassesBy w k n after (Answered false)
nothing_passes w k n after is = record {
  outcome = λ x s stage h.
      let d = view w.value.now in
      no_rule (reading_of x) d _ _ (subst (λ shapes. AreSpelledBy (reading_of x) d (map (rule x.matches d) shapes) (text_left w.instance) (47 ∷ (n ++ text_left after))) (is x s) h);
}

-- by the row of the keyword
pub by_row : (w : Walk) (k : Keyword) (row : Scene → Site → Row) (n : List ℕ) (after : Option (Bor (List ℕ))) (step : Step) → ((x : Scene) (s : Site) → row_of x.documents s k ≡ row x s)
    → PassesThrough w row after step → PassesBy w k n after step
by_row w k row n after step is h = record {
  outcome = λ x s stage.
      let d = view w.value.now in
      subst (λ (r : Row). Outcome x s d (AreSpelledBy (reading_of x) d (map (rule x.matches d) r.shapes) (text_left w.instance) (47 ∷ (n ++ text_left after))) step) (sym (is x s))
      (h.outcome x s n (subst (λ r. Stage w.site d n r x s) (is x s) stage));
}
