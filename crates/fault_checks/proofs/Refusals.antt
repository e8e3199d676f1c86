-- Whether keywords refuse, by what is told of their questions.
use Rattle.std.proofs.Common.{◌≡◌, ◌∙◌, ◌≤◌, ℕ, List, [], ◌∷◌, Bool, true, false, not, ◌&&◌, map, Some, refl, sym, ap, subst}
use Rattle.serde_json.specs.Data.{Data, depth}
use Rattle.serde_json.specs.View.{view}
use Rattle.json_values.specs.Parts.{Part}
use Rattle.schema_meaning.specs.Members.{In, first, later, all_true, is_empty}
use Rattle.schema_meaning.specs.Places.{whole, value_after}
use Rattle.schema_meaning.specs.Questions.{Question}
use Rattle.schema_meaning.specs.Rules.{Rule, Note, every, accepts}
use Rattle.schema_meaning.specs.Keywords.{rule}
use Rattle.schema_meaning.specs.Readings.{Reading, verdicts, IsTold}
use Rattle.schema_meaning.specs.Cut.{cut}
use Rattle.schema_meaning.specs.Certificates.{AreAnswers}
use Rattle.schema_definitions.specs.Sites.{Site}
use Rattle.schema_definitions.specs.Rows.{Row, rows_at}
use Rattle.schema_definitions.specs.Plain.{deepest, plain}
use Rattle.schema_definitions.specs.AllKeys.{keys_of}
use Rattle.plain_reader.specs.Passed.{documents_at}
use Rattle.plain_reader.specs.Passed as code
use Rattle.plain_reader.specs.Verdicts.{AreRead}
use Rattle.schema_patterns.specs.Read.{reads}
use Rattle.plain_reader.specs.Sites.{SiteAccepts}
use Rattle.certificate_laws.proofs.Answers.{answers_there, some_refused, refused_some, not_both}
use Rattle.certificate_laws.proofs.Begun.{rules_stand}
use Rattle.fault_checks.specs.Scenes.{Scene, reading_of}
use Rattle.fault_checks.specs.Verdicts.{IsDecided, IsVerdict, SomeRefuses, Answers}
use Rattle.fault_checks.proofs.Right.{right_read, told_there}
use Rattle.fault_checks.proofs.Children.{meets_shallow}

-- ---- the verdict of a schema

pub site_verdict : (c : code.Site) (d : Data) (b : Bool) → depth (view c.contents.now) ≤ deepest (documents_at c) → SiteAccepts c d b → IsVerdict c d (not (not b))
site_verdict c d b shallow answer = record {
  told = λ x s m straight.
      let read : AreRead (documents_at c) x.makes s = subst (λ docs. AreRead docs x.makes s) m.documents (right_read x s m.right) in
      let verdict : b ≡ cut verdicts (reading_of x) (keys_of x.documents d) [] s (whole d) =
      subst (λ (matches : List ℕ → List ℕ → Bool). b ≡ cut verdicts (plain x.documents x.makes matches) (keys_of x.documents d) [] s (whole d)) (sym m.matches)
      (subst (λ docs. b ≡ cut verdicts (plain docs x.makes (reads c.matches.now)) (keys_of docs d) [] s (whole d)) (sym m.documents)
      (answer.is x.makes s m.stands m.scope read)) in
      subst (λ v. IsTold verdicts (reading_of x) s (whole d) v) (sym (twice b ∙ verdict)) (told_there x s d (meets_shallow c x s m shallow) straight);
}
  where
    twice : (b : Bool) → not (not b) ≡ b
    twice true = refl
    twice false = refl

-- ---- by questions

pub answers_one : (b : Bool) (r : Reading Site) (d : Data) (q : Question Site) → IsTold verdicts r q.site (whole (value_after d q.step)) (not b) → Answers b r d (q ∷ [])
answers_one true r d q h = (q, first, h)
answers_one false r d q h = λ p i. only p i
  where
    only : (p : Question Site) → In p (q ∷ []) → IsTold verdicts r p.site (whole (value_after d p.step)) true
    only p first = h
    only p (later i) = elim i [ ]

only_rule : {A : Type 0} (P : A → Type 0) (x y : A) → In y (x ∷ []) → P x → P y
only_rule P x y first h = h
only_rule P x y (later i) h = elim i [ ]

-- a keyword that refuses where a question is refused
pub decided_by : (b : Bool) (x : Scene) (s : Site) (d : Data) (row : Row) (p : List Part) (qs : List (Question Site)) (v : Bool) → In row (rows_at x.documents x.makes s)
    → map (rule x.matches d) row.shapes ≡ every p [] qs ∷ [] → IsTold verdicts (reading_of x) s (whole d) v → Answers b (reading_of x) d qs
    → IsDecided b (SomeRefuses (reading_of x) d (map (rule x.matches d) row.shapes))
decided_by true x s d row p qs v i is told answer =
    let k : Rule Site = every p [] qs in
    let there : In k (map (rule x.matches d) row.shapes) = subst (λ ks. In k ks) (sym is) first in
    let bs = answers_there (reading_of x) s d v told k (rules_stand x.documents x.makes x.matches s row d i k there) in
    (k, bs.0, there, bs.1, some_refused (reading_of x) d k bs.0 answer.0 bs.1 answer.1 answer.2)
decided_by false x s d row p qs v i is told answer = λ h. none h.0 h.1 (subst (λ ks. In h.0 ks) is h.2) h.3 h.4
  where
    none : (k : Rule Site) (bs : List Bool) → In k (every p [] qs ∷ []) → AreAnswers (reading_of x) (whole d) k bs → accepts k bs ≡ false → ⊥
    none _ bs first a wrong =
        let w = refused_some (reading_of x) d (every p [] qs) bs a wrong in
        not_both (reading_of x) w.0.site (value_after d w.0.step) w.2 (answer w.0 w.1)
    none k bs (later i) a wrong = elim i [ ]

-- ---- by the value itself

no_answers : (r : Reading Site) (d : Data) (p : List Part) (notes : List Note) (bs : List Bool) → AreAnswers r (whole d) (every p notes []) bs → bs ≡ []
no_answers r d p notes bs a = let e : Some [] ≡ Some bs = a.are in cc

asserted : (b : Bool) (r : Reading Site) (d : Data) (p : List Part) (notes : List Note) → b ≡ is_empty notes → IsDecided (not b) (SomeRefuses r d (every p notes [] ∷ []))
asserted true r d p notes is = λ h. none h.0 h.1 h.2 h.3 h.4
  where
    none : (k : Rule Site) (bs : List Bool) → In k (every p notes [] ∷ []) → AreAnswers r (whole d) k bs → accepts k bs ≡ false → ⊥
    none _ bs first a wrong =
        let empty : bs ≡ [] = no_answers r d p notes bs a in
        let no : true ≡ false = ap (λ v. v && true) is ∙ sym (ap (λ vs. is_empty notes && all_true vs) empty) ∙ wrong in cc
    none k bs (later i) a wrong = elim i [ ]
asserted false r d p notes is = (every p notes [], [], first, record { unfoldings = 0; are = refl }, ap (λ v. v && true) (sym is))

pub decided_asserted : (b : Bool) (r : Reading Site) (d : Data) (p : List Part) (notes : List Note) (ks : List (Rule Site)) → b ≡ is_empty notes → ks ≡ every p notes [] ∷ []
    → IsDecided (not b) (SomeRefuses r d ks)
decided_asserted b r d p notes ks same is = subst (λ ks. IsDecided (not b) (SomeRefuses r d ks)) (sym is) (asserted b r d p notes same)

pub decided_nothing : (r : Reading Site) (d : Data) → IsDecided false (SomeRefuses r d [])
decided_nothing r d = λ h. elim h.2 [ ]
