-- Whether `if` accepts, by what its schema answers and by the chosen one.
use Rattle.std.proofs.Common.{◌≡◌, ◌<◌, ◌++◌, ℕ, List, [], ◌∷◌, Bool, true, false, map, codes, Bor, Option, Some, None, IfSome, refl, sym, ap, subst, ◌∙◌}
use Rattle.std.specs.Prelude.{option_map}
use Rattle.serde_json.specs.Data.{Data, depth}
use Rattle.serde_json.specs.View.{view}
use Rattle.serde_json.specs.declared.value.Value.{Value}
use Rattle.json_values.specs.Parts.{Part}
use Rattle.schema_meaning.specs.Members.{In, later, all_true}
use Rattle.schema_meaning.specs.Places.{Key}
use Rattle.schema_meaning.specs.Questions.{Question, here}
use Rattle.schema_meaning.specs.Rules.{chosen, consequents}
use Rattle.schema_meaning.specs.Keywords.{Shape, condition, consequent}
use Rattle.schema_definitions.specs.Sites.{Site, below}
use Rattle.reading_laws.proofs.Elements.{in_front, in_rest}
use Rattle.applicators.specs.Questions.{question_of}
use Rattle.applicators.specs.declared.question.Question as asking_of
use Rattle.schema_sites.specs.Read.{site_at}
use Rattle.schema_sites.specs.declared.site.Site as code
use Rattle.plain_reader.specs.Spots.{Spots}
use Rattle.plain_reader.specs.Settings.{Setting, answer_in, all_yes, all_accept}
use Rattle.plain_reader.specs.Verdicts.{AreRead, ShapesAccept, AreYes}
use Rattle.plain_reader.specs.Applied.{question_leads, one_question, IsPart}
use Rattle.plain_reader.specs.Choices.{asking, site_in, asks_at, beside_leads, beside_questions, choice_leads, choice_shapes, chosen_leads, chosen_questions, IsInside}
use Rattle.plain_reader.proofs.QuestionVerdicts.{answered}
use Rattle.plain_reader.proofs.VerdictLemmas.{all_accept-one, all_yes-none}

-- ---- the value itself is asked of

pub value_part : (d : Data) (k : Bor (List ℕ)) (schema : Bor Value) (q : asking_of.Question) → q ≡ asking k schema → IsPart d q.asked
value_part d k schema q is = subst (λ (p : asking_of.Question). IsPart d p.asked) (sym is) (record { spots = λ path w h. h; named = λ m e. absurd (cc) })

pub asked_inside_of : (c : code.Site) (k : Bor (List ℕ)) (schema : Bor Value) (q : asking_of.Question) → q ≡ asking k schema → IsInside c schema
    → depth (view q.subschema.schema.now) < depth (view c.contents.now)
asked_inside_of c k schema q is inside = subst (λ (p : asking_of.Question). depth (view p.subschema.schema.now) < depth (view c.contents.now)) (sym is) inside

pub some_inside : (c : code.Site) (o : Option (Bor Value)) (schema : Bor Value) → o ≡ Some schema → IfSome o (IsInside c) → IsInside c schema
some_inside c o schema is h = subst (λ (p : Option (Bor Value)). IfSome p (IsInside c)) is h

-- ---- the verdict

abbrev others : Option (Bor Value) → Option (Bor Value) → Setting → List (Bool × Question Site)
others t e x = consequent true (codes "then") (option_map (λ v. site_at x.documents x.site (codes "then") (view v.now)) t) ++ consequent false (codes "else") (option_map (λ v. site_at x.documents x.site (codes "else") (view v.now)) e)

chosen_yes : (x : Setting) (t e : Option (Bor Value)) (b : Bool)
    → all_true (chosen b (others t e x) (map (answer_in x) (consequents (others t e x)))) ≡ all_yes x (chosen_questions b t e x)
unfolding all_yes
chosen_yes x None None true = refl
chosen_yes x None None false = refl
chosen_yes x None (Some e) true = refl
chosen_yes x None (Some e) false = refl
chosen_yes x (Some t) None true = refl
chosen_yes x (Some t) None false = refl
chosen_yes x (Some t) (Some e) true = refl
chosen_yes x (Some t) (Some e) false = refl

choice_is : (x : Setting) (schema : Bor Value) (t e : Option (Bor Value)) (b : Bool) → answer_in x (asks_at (codes "if") schema x) ≡ b
    → all_accept x (choice_shapes schema t e x) ≡ all_yes x (chosen_questions b t e x)
choice_is x schema t e b is =
    let s = site_in (codes "if") schema x in
    let shape : Shape Site = condition s (option_map (λ v. site_at x.documents x.site (codes "then") (view v.now)) t) (option_map (λ v. site_at x.documents x.site (codes "else") (view v.now)) e) in
    all_accept-one x shape ∙ ap (λ (v : Bool). all_true (chosen v (others t e x) (map (answer_in x) (consequents (others t e x))))) is ∙ chosen_yes x t e b

chosen_among : (x : Setting) (schema : Bor Value) (t e : Option (Bor Value)) (b : Bool) (u : Site) → In u (chosen_leads b t e x) → In u (choice_leads schema t e x)
chosen_among x schema t e true u i = later (in_front u (beside_leads (codes "then") t x) (beside_leads (codes "else") e x) i)
chosen_among x schema t e false u i = later (in_rest u (beside_leads (codes "then") t x) (beside_leads (codes "else") e x) i)

module _ (c : code.Site) (instance : Spots) (d : Data) (path : List Part) (keys : List Key) where
  -- it accepts as what is chosen does
  chosen_accepts : (k : Bor (List ℕ)) (schema : Bor Value) (t e : Option (Bor Value)) (q : asking_of.Question) (b v : Bool) → k.now ≡ codes "if" → q ≡ asking k schema
      → AreYes c instance d path keys (question_leads q) (one_question q) b
      → AreYes c instance d path keys (chosen_leads b t e) (chosen_questions b t e) v
      → ShapesAccept c instance d path keys (choice_leads schema t e) (choice_shapes schema t e) v
  chosen_accepts k schema t e q b v named is answer chosen_is = record {
    is = λ x fits read enough.
        let site = below x.documents x.site in
        let led : (u : Site) → In u (question_leads q x) → AreRead x.documents x.makes u =
        λ u i. read u (subst (λ (n : List ℕ). In u (choice_leads schema t e x)) named (one_led x q is u i)) in
        let same_question : question_of site q ≡ asks_at (codes "if") schema x =
        ap (λ (p : asking_of.Question). question_of site p) is ∙ ap (λ (n : List ℕ). here n (site_at x.documents x.site n (view schema.now))) named in
        let verdict : answer_in x (asks_at (codes "if") schema x) ≡ b =
        ap (λ (p : Question Site). answer_in x p) (sym same_question) ∙ answered c instance d path keys q b answer x fits led enough in
        choice_is x schema t e b verdict ∙ chosen_is.is x fits (λ u i. read u (chosen_among x schema t e b u i)) enough;
  }
    where
      one_led : (x : Setting) (q : asking_of.Question) → q ≡ asking k schema → (u : Site) → In u (question_leads q x) → In u (choice_leads schema t e x)
      one_led x q is u i =
          let one : In u (site_at x.documents x.site k.now (view schema.now) ∷ []) = subst (λ (p : asking_of.Question). In u (question_leads p x)) is i in
          let known : In u (site_in (codes "if") schema x ∷ []) = subst (λ (n : List ℕ). In u (site_at x.documents x.site n (view schema.now) ∷ [])) named one in
          in_front u (site_in (codes "if") schema x ∷ []) (beside_leads (codes "then") t x ++ beside_leads (codes "else") e x) known

  pub then_accepts : (k : Bor (List ℕ)) (schema : Bor Value) (t e : Option (Bor Value)) (q : asking_of.Question) (b v : Bool) → k.now ≡ codes "if" → q ≡ asking k schema
      → AreYes c instance d path keys (question_leads q) (one_question q) b → b ≡ true
      → AreYes c instance d path keys (beside_leads (codes "then") t) (beside_questions (codes "then") t) v
      → ShapesAccept c instance d path keys (choice_leads schema t e) (choice_shapes schema t e) v
  then_accepts k schema t e q b v named is answer said_yes chosen_is =
      chosen_accepts k schema t e q true v named is (subst (λ w. AreYes c instance d path keys (question_leads q) (one_question q) w) said_yes answer) chosen_is

  pub else_accepts : (k : Bor (List ℕ)) (schema : Bor Value) (t e : Option (Bor Value)) (q : asking_of.Question) (b v : Bool) → k.now ≡ codes "if" → q ≡ asking k schema
      → AreYes c instance d path keys (question_leads q) (one_question q) b → b ≡ false
      → AreYes c instance d path keys (beside_leads (codes "else") e) (beside_questions (codes "else") e) v
      → ShapesAccept c instance d path keys (choice_leads schema t e) (choice_shapes schema t e) v
  else_accepts k schema t e q b v named is answer said_no chosen_is =
      chosen_accepts k schema t e q false v named is (subst (λ w. AreYes c instance d path keys (question_leads q) (one_question q) w) said_no answer) chosen_is

  -- the schema that stands there
  pub beside_accepts : (k : Bor (List ℕ)) (schema : Bor Value) (o : Option (Bor Value)) (q : asking_of.Question) (v : Bool) → o ≡ Some schema → q ≡ asking k schema
      → AreYes c instance d path keys (question_leads q) (one_question q) v → AreYes c instance d path keys (beside_leads k.now o) (beside_questions k.now o) v
  beside_accepts k schema o q v there is answer =
      subst (λ (p : Option (Bor Value)). AreYes c instance d path keys (beside_leads k.now p) (beside_questions k.now p) v) (sym there)
      (subst (λ (p : asking_of.Question). AreYes c instance d path keys (question_leads p) (one_question p) v) is answer)

  pub none_accepts : (k : List ℕ) (o : Option (Bor Value)) → o ≡ None → AreYes c instance d path keys (beside_leads k o) (beside_questions k o) true
  none_accepts k o none_there = record {
    is = λ x fits read enough. ap (λ (p : Option (Bor Value)). all_yes x (beside_questions k p x)) none_there ∙ all_yes-none x;
  }
