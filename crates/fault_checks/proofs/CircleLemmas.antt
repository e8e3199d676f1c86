-- Where references come back below what a check reads, they do where it reads it.
use Rattle.std.proofs.Common.{◌≡◌, ℕ, List, [], ◌∷◌, Bool, true, Bor, Option, Some, codes, sym, ap, subst}
use Rattle.serde_json.specs.Data.{Data, string}
use Rattle.serde_json.specs.View.{view}
use Rattle.serde_json.specs.declared.value.Value.{Value}
use Rattle.schema_meaning.specs.Members.{In, first}
use Rattle.schema_meaning.specs.Places.{stay, whole, value_after}
use Rattle.schema_meaning.specs.Questions.{Question, at, here, names_of}
use Rattle.schema_meaning.specs.Keywords.{reference}
use Rattle.schema_meaning.specs.Circular.{IsCircular}
use Rattle.schema_definitions.specs.Bearers.{Documents}
use Rattle.schema_definitions.specs.Lookup.{Target}
use Rattle.schema_definitions.specs.Sites.{Site, below, root_site, target_site}
use Rattle.schema_definitions.specs.Plain.{plain}
use Rattle.schema_patterns.specs.Read.{reads}
use Rattle.schema_patterns.specs.declared.matches.Matches.{Matches}
use Rattle.applicators.specs.Shapes.{shape_of, place_of, added_at}
use Rattle.applicators.specs.Combined.{is_by_answers}
use Rattle.applicators.specs.Questions.{step_of, question_of}
use Rattle.applicators.specs.Applied.{Applicator}
use Rattle.applicators.specs.declared.question.Asked.{Asked}
use Rattle.applicators.specs.declared.question.Asked.TheVariants as asked
use Rattle.applicators.specs.declared.question.Question as asking
use Rattle.plain_reader.proofs.Sound.{questions_are_sound}
use Rattle.plain_reader.specs.Applied.{AreAsked}
use Rattle.plain_reader.specs.Passed.{documents_at, Stands, ReferenceKeyword, Resolved, kind_of, name_of as keyword_name, scope_of, site_at, target_in}
use Rattle.plain_reader.specs.Passed as code
use Rattle.plain_reader.specs.Sites.{SiteReturns}
use Rattle.plain_reader.specs.Verdicts.{AreRead}
use Rattle.plain_reader.proofs.ChildVerdicts.{Child}
use Rattle.fault_checks.specs.Scenes.{IsStraight}
use Rattle.fault_checks.specs.Rows.{applied_row, reference_row}
use Rattle.fault_checks.specs.Verdicts.{IsInnerVerdict, chosen_of}
use Rattle.fault_checks.specs.Steps.{names_site, Passes}
use Rattle.fault_checks.specs.NamedSteps.{IsAtName}
use Rattle.fault_checks.specs.Circles.{ComesBack, ComesBackBy, keyword_row, InnerComesBack, QuestionComesBack, NameComesBack, SomeComesBack, WalkComesBack, RootComesBack}
use Rattle.fault_checks.specs.declared.trial.Trial.{Trial}
use Rattle.fault_checks.specs.declared.walk.Walk.{Walk}
use Rattle.fault_checks.specs.declared.walk.AtNames.{AtNames}
use Rattle.fault_checks.specs.declared.walk.Step.TheVariants.{On, Named}
use Rattle.fault_checks.proofs.Right.{right_read, right_on, asked_back}
use Rattle.fault_checks.proofs.Children.{AtTarget, child_meets, target_meets}
use Rattle.fault_checks.proofs.Choices.{name_of}
use Rattle.fault_checks.proofs.Chosen.{the_row, the_shape, condition_site, if_answers, part_right, part_back}
use Rattle.fault_checks.proofs.AppliedQuestions.{there}

-- ---- the reading of a schema

pub site_back : (c : code.Site) (d : Data) → SiteReturns c d → ComesBack c d
site_back c d returns = record {
  back = λ x s m straight.
      let read : AreRead (documents_at c) x.makes s = subst (λ (docs : Documents). AreRead docs x.makes s) m.documents (right_read x s m.right) in
      straight
      (subst (λ (matches : List ℕ → List ℕ → Bool). IsCircular (plain x.documents x.makes matches) s (whole d)) (sym m.matches)
      (subst (λ (docs : Documents). IsCircular (plain docs x.makes (reads c.matches.now)) s (whole d)) (sym m.documents) (returns.circular x.makes s m.stands m.scope read)));
}

-- ---- what is asked of

module _ (c : code.Site) (d : Data) where
  pub back_of_value : (a : Asked) → a ≡ asked.Value → ComesBack c d → ComesBack c (value_after d (step_of a))
  back_of_value a is h = subst (λ (x : Asked). ComesBack c (value_after d (step_of x))) (sym is) h

  pub back_of_item : (a : Asked) (i : ℕ) (e : Bor Value) → a ≡ asked.Item i e → ComesBack c (view e.now) → ComesBack c (value_after d (step_of a))
  back_of_item a i e is h = subst (λ (x : Asked). ComesBack c (value_after d (step_of x))) (sym is) h

  pub back_of_member : (a : Asked) (k : Bor (List ℕ)) (e : Bor Value) → a ≡ asked.Member k e → ComesBack c (view e.now) → ComesBack c (value_after d (step_of a))
  back_of_member a k e is h = subst (λ (x : Asked). ComesBack c (value_after d (step_of x))) (sym is) h

  pub back_of_name : (a : Asked) (k : Bor (List ℕ)) (e : Value) → a ≡ asked.Name k → view e ≡ string k.now → ComesBack c (view e) → ComesBack c (value_after d (step_of a))
  back_of_name a k e is text h = subst (λ (x : Asked). ComesBack c (value_after d (step_of x))) (sym is) (subst (λ (f : Data). ComesBack c f) text h)

-- ---- questions

pub question_back : (t : Trial) (b : code.Site) (q : asking.Question) → Child t.site.now b (view q.subschema.schema.now) → ComesBack b (value_after (view t.value.now) (step_of q.asked))
    → QuestionComesBack t q
question_back t b q child inner_back = record {
  back = λ a by_answers x s k i stage.
      let d = view t.value.now in
      let site = below x.documents s in
      let row = applied_row a x s in
      let inner = place_of site q.subschema in
      let sound = questions_are_sound site x.matches d a by_answers (question_of site q) i in
      let right = right_on x s row inner stage.meets.right stage.stands sound.led in
      let meets = child_meets t.site.now b (view q.subschema.schema.now) (added_at q.subschema.keyword.now q.subschema.entry) x s child stage.meets right in
      inner_back.back x inner meets (λ circular. stage.straight (asked_back x s row d (shape_of site a) (question_of site q) stage.stands first i circular));
}

pub one_back : (t : Trial) (a : Applicator) (qs : List asking.Question) → AreAsked (reads t.site.now.matches.now) a (view t.value.now) qs → is_by_answers a ≡ true
    → (q : asking.Question) → In q qs → QuestionComesBack t q → ComesBackBy t.site.now (view t.value.now) (applied_row a)
one_back t a qs are by_answers q i asked = record {
  back = λ x s k stage. asked.back a by_answers x s k (there t.site.now (view t.value.now) a qs are by_answers x s stage.meets q i) stage;
}

-- ---- a schema at a keyword

pub inner_back : (t : Trial) (inner : code.Site) (k : List ℕ) (schema : Data) → Child t.site.now inner schema → ComesBack inner (view t.value.now) → InnerComesBack t k schema
inner_back t inner k schema child h = record {
  back = λ x s meets right straight.
      let inside = site_at x.documents s k schema in
      h.back x inside (child_meets t.site.now inner schema (at k) x s child meets right) straight;
}

module _ (t : Trial) (schema : Bor Value) (then_schema else_schema : Option (Bor Value)) where
  abbrev d : Data
  d = view t.value.now

  abbrev If : code.Keyword
  If = code.If schema then_schema else_schema

  pub condition_back : InnerComesBack t (codes "if") (view schema.now) → ComesBackBy t.site.now d (keyword_row If)
  condition_back inner = record {
    back = λ x s n stage.
        let row = the_row t.site.now d schema then_schema else_schema t.shallow x s in
        let site = condition_site t.site.now d schema then_schema else_schema t.shallow x s in
        inner.back x s stage.meets (right_on x s row site stage.meets.right stage.stands first)
        (λ circular. stage.straight (asked_back x s row d (the_shape t.site.now d schema then_schema else_schema t.shallow x s) (here (codes "if") site) stage.stands first first circular));
  }

  pub chosen_back : (b : Bool) → IsInnerVerdict t.site.now d (codes "if") (view schema.now) b → (k : List ℕ) → k ≡ name_of b → (part : Bor Value) → chosen_of b then_schema else_schema ≡ Some part
      → InnerComesBack t k (view part.now) → ComesBackBy t.site.now d (keyword_row If)
  chosen_back b verdict k same part chooses asked = record {
    back = λ x s n stage.
        let inner = subst (λ (m : List ℕ). InnerComesBack t m (view part.now)) same asked in
        let w = if_answers t.site.now d schema then_schema else_schema t.shallow n x s stage in
        inner.back x s stage.meets (part_right t.site.now d schema then_schema else_schema t.shallow n x s stage b part chooses)
        (λ circular. stage.straight (part_back t.site.now d schema then_schema else_schema t.shallow n x s stage b verdict w.0 w.1 part chooses circular));
  }

-- ---- the target of a reference

pub target_back : (c inner : code.Site) (d : Data) (w : ReferenceKeyword) (text : List ℕ) (target : Resolved) → AtTarget c inner w text target → ComesBack inner d
    → ComesBackBy c d (reference_row w text (target_in target))
target_back c inner d w text target at_it h = record {
  back = λ x s k stage.
      let row = reference_row w text (target_in target) x s in
      let site = target_site s text (target_in target) in
      let meets = target_meets c inner w text target x s at_it stage.meets (right_on x s row site stage.meets.right stage.stands first) in
      let q : Question Site = record { site = site; step = stay; added = at (keyword_name w); follows = true } in
      h.back x site meets (λ circular. stage.straight (asked_back x s row d (reference (kind_of w) site) q stage.stands first first circular));
}

-- ---- walks

-- one that goes on
pub walk_back : (w v : Walk) → Passes w (On v) → WalkComesBack v → WalkComesBack w
walk_back w v passes h = record {
  back = λ x s meets straight. let on = passes.outcome x s meets straight in h.back x on.site on.meets (λ circular. straight (on.back circular));
}

pub names_back : (w : Walk) (n : AtNames) → Passes w (Named n) → SomeComesBack n → WalkComesBack w
names_back w n passes h = record {
  back = λ x s meets straight.
      let on = passes.outcome x s meets straight in h.back x on.site on.meets on.right (λ k i circular. straight (on.back k i circular));
}

pub some_back : (n : AtNames) (k : List ℕ) → In k (names_of (view n.walk.value.now)) → NameComesBack n k → SomeComesBack n
some_back n k i h = record { back = λ x s meets right straight. h.back x s meets right (straight k i) }

pub name_back : (n : AtNames) (k : List ℕ) (v : Walk) → IsAtName n (string k) v → WalkComesBack v → NameComesBack n k
name_back n k v there_it h = record {
  back = λ x s meets right straight.
      let inner = names_site x n s in
      let child : Child n.walk.site v.site (view n.schema.now) = record {
        contents = there_it.contents;
        documents = there_it.documents;
        scope = there_it.scope;
        stands = λ t added. there_it.stands t added;
        matches = there_it.matches;
      } in
      h.back x inner (child_meets n.walk.site v.site (view n.schema.now) (at n.keyword.now) x s child meets right) (subst (IsStraight x inner) (sym there_it.value) straight);
}

-- from a root
pub root_back : (c : code.Site) (d : Data) (t : Target) (docs : Documents) (m : Bor Matches) → documents_at c ≡ docs → c.matches ≡ m → Stands c (root_site t) → scope_of c.resolver ≡ t.base ∷ []
    → ComesBack c d → RootComesBack t docs m.now d
root_back c d t docs m same matched stands scope h = record {
  back = λ makes right straight.
      h.back (record { documents = docs; makes = makes; matches = reads m.now }) (root_site t)
      (record {
        documents = sym same;
        stands = stands;
        scope = sym scope;
        matches = ap (λ (m : Bor Matches). reads m.now) (sym matched);
        right = right;
      }) straight;
}
