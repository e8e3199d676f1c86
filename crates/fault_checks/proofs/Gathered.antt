-- Whether a keyword refuses, by what it asks or by what is wrong.
use Rattle.std.proofs.Common.{◌≡◌, ◌∙◌, ◌≤◌, ℕ, List, [], ◌∷◌, Bool, true, false, not, codes, map, refl, sym, ap, subst}
use Rattle.serde_json.specs.Data.{Data, depth}
use Rattle.serde_json.specs.Find.{at}
use Rattle.serde_json.specs.View.{view}
use Rattle.json_values.specs.Parts.{Part}
use Rattle.schema_meaning.specs.Members.{first, is_empty}
use Rattle.schema_meaning.specs.Places.{stay}
use Rattle.schema_meaning.specs.Rules.{every}
use Rattle.schema_meaning.specs.Questions.{Question}
use Rattle.schema_meaning.specs.Questions as asking
use Rattle.schema_meaning.specs.Faults.{Pattern}
use Rattle.schema_patterns.specs.Read.{reads}
use Rattle.schema_meaning.specs.Keywords.{Assertion, named, wrong, unless, pattern, reference, rule}
use Rattle.schema_definitions.specs.Sites.{Site, target_site}
use Rattle.schema_definitions.specs.Rows.{Row}
use Rattle.schema_definitions.specs.Plain.{deepest}
use Rattle.plain_reader.specs.Passed.{target_in}
use Rattle.plain_reader.specs.Passed.{Resolved}
use Rattle.plain_reader.specs.Passed.{documents_at}
use Rattle.plain_reader.specs.Passed.{row_of}
use Rattle.plain_reader.specs.Passed.{Keyword}
use Rattle.plain_reader.specs.Passed as code
use Rattle.fault_checks.specs.Scenes.{Scene, reading_of, Stage}
use Rattle.plain_reader.specs.Passed.{kind_of, name_of}
use Rattle.plain_reader.specs.Passed.{ReferenceKeyword}
use Rattle.fault_checks.specs.Rows.{reference_row, reference_questions}
use Rattle.fault_checks.specs.Verdicts.{IsDecided, SomeRefuses, IsVerdict, AreRefused, IsRefusal, rules_by}
use Rattle.fault_checks.proofs.Right.{told_there, right_on, asked_back}
use Rattle.fault_checks.proofs.Children.{AtTarget, meets_shallow, target_meets}
use Rattle.fault_checks.proofs.Refusals.{answers_one, decided_by, decided_asserted, decided_nothing}

-- ---- the target of a reference

pub reference_refused : (c inner : code.Site) (d : Data) (w : ReferenceKeyword) (text : List ℕ) (target : Resolved) (b : Bool) → AtTarget c inner w text target
    → IsVerdict inner d (not b) → AreRefused c d (reference_row w text (target_in target)) (reference_questions w text (target_in target)) b
reference_refused c inner d w text target b at verdict = record {
  answers = λ x s k stage.
      let row = reference_row w text (target_in target) x s in
      let site = target_site s text (target_in target) in
      let meets = target_meets c inner w text target x s at stage.meets (right_on x s row site stage.meets.right stage.stands first) in
      let q : Question Site = record { site = site; step = stay; added = asking.at (name_of w); follows = true } in
      answers_one b (reading_of x) d q
      (verdict.told x site meets
      (λ circular. stage.straight (asked_back x s row d (reference (kind_of w) site) q stage.stands first first circular)));
}

-- ---- a keyword, by its questions

pub by_questions : (c : code.Site) (d : Data) (k : Keyword) (row : Scene → Site → Row) (p : List Part) (questions : Scene → Site → List (Question Site)) (b : Bool)
    → depth (view c.contents.now) ≤ deepest (documents_at c) → ((x : Scene) (s : Site) → row_of x.documents s k ≡ row x s)
    → ((x : Scene) (s : Site) → map (rule x.matches d) (row x s).shapes ≡ every p [] (questions x s) ∷ []) → AreRefused c d row questions b → IsRefusal c d k b
by_questions c d k row p questions b shallow is rules h = record {
  decides = λ x s n stage.
      let there : Stage c d n (row x s) x s = subst (λ r. Stage c d n r x s) (is x s) stage in
      let told = told_there x s d (meets_shallow c x s stage.meets shallow) stage.straight in
      subst (λ (r : Row). IsDecided b (SomeRefuses (reading_of x) d (map (rule x.matches d) r.shapes))) (sym (is x s))
      (decided_by b x s d (row x s) p (questions x s) _ there.stands (rules x s) told (h.answers x s n there));
}

pub by_assertion : (c : code.Site) (d : Data) (k : Keyword) (a : Assertion) (b : Bool) → ((matches : List ℕ → List ℕ → Bool) → b ≡ is_empty (wrong matches a d))
    → ((x : Scene) (s : Site) → rules_by x s d k ≡ every (asking.at (named a)) (wrong x.matches a d) [] ∷ []) → IsRefusal c d k (not b)
by_assertion c d k a b same rules = record {
  decides = λ x s n stage. decided_asserted b (reading_of x) d (asking.at (named a)) (wrong x.matches a d) (rules_by x s d k) (same x.matches) (rules x s);
}

pub by_pattern : (c : code.Site) (d : Data) (k : Keyword) (p : List ℕ) (b : Bool) → wrong (reads c.matches.now) (pattern p) d ≡ unless b (Pattern p) d
    → ((x : Scene) (s : Site) → rules_by x s d k ≡ every (asking.at (codes "pattern")) (wrong x.matches (pattern p) d) [] ∷ []) → IsRefusal c d k (not b)
by_pattern c d k p b is rules = record {
  decides = λ x s n stage.
      let same : b ≡ is_empty (wrong x.matches (pattern p) d) =
      empty_so b ∙ ap is_empty (sym is) ∙ ap (λ (m : List ℕ → List ℕ → Bool). is_empty (wrong m (pattern p) d)) (sym stage.meets.matches) in
      decided_asserted b (reading_of x) d (asking.at (codes "pattern")) (wrong x.matches (pattern p) d) (rules_by x s d k) same (rules x s);
}
  where
    empty_so : (v : Bool) → v ≡ is_empty (unless v (Pattern p) d)
    empty_so true = refl
    empty_so false = refl

pub by_nothing : (c : code.Site) (d : Data) (k : Keyword) → ((x : Scene) (s : Site) → rules_by x s d k ≡ []) → IsRefusal c d k false
by_nothing c d k rules = record {
  decides = λ x s n stage. subst (λ ks. IsDecided false (SomeRefuses (reading_of x) d ks)) (sym (rules x s)) (decided_nothing (reading_of x) d);
}
