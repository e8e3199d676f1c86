-- What a keyword tells, by what the functions for its rule tell.
use Rattle.std.proofs.Common.{◌≡◌, ◌≤◌, ◌<◌, ◌+◌, ◌∙◌, ◌++◌, ℕ, List, [], ◌∷◌, Bool, true, false, map, drop, length, get_or, refl, sym, ap, ap₂}
use Rattle.std.proofs.lemmas.List.{drop_more, drop_all}
use Rattle.json_values.specs.Parts.{Part}
use Rattle.schema_meaning.specs.Places.{Spot}
use Rattle.schema_meaning.specs.Faults.{Fault, fault, Faults, none, also, joined}
use Rattle.schema_meaning.specs.Rules.{Rule, every, together, each_named, some_branch, one_branch, refusal, counted, conditional, Note, asks, one_fault, own_faults}
use Rattle.schema_meaning.specs.Readings.{Reading}
use Rattle.location_texts.specs.Locations.{location_of}
use Rattle.schema_reports.specs.Observers.{Hears}
use Rattle.schema_reports.specs.declared.observer.Observation.{Observation}
use Rattle.schema_reports.specs.declared.observer.Observer.{Observer}
use Rattle.schema_engine.specs.declared.combination.Combination.{Combination}
use Rattle.schema_engine.specs.declared.combination.Combination.TheVariants as combination
use Rattle.schema_engine.specs.declared.place.Question as code
use Rattle.schema_engine.specs.declared.situation.Situation.{Situation}
use Rattle.schema_engine.specs.Hearing.{HearsMore}
use Rattle.schema_engine.specs.Questions.{call_of}
use Rattle.schema_engine.specs.Refusals.{own_notes, has_one_fault, refused_fault}
use Rattle.schema_engine.specs.Rules.{combination_of}
use Rattle.schema_engine.specs.Situations.{spot_in}
use Rattle.schema_engine.specs.Verdicts.{Setting, Tells, asked_in, rule_in}
use Rattle.engine_faults.specs.Faults.{Stand, IsAt, Hearing, AreAsked, asked_faults, rule_faults, one_told, question_faults, faults_beside, faults_by_first, faults_of_object}
use Rattle.schema_engine.proofs.HearsLemmas.{hears_same, hears_unwanted, hears_later}
use Rattle.engine_faults.proofs.RuleFaults.{every_faults, named_faults, conditional_faults, rule_faults-is, one_rule_faults, question_agrees}
use Rattle.engine_faults.proofs.ToTell.{hearing_same, hearing_both, hearing_nothing}

-- one of the others has one fault
pub one_of_others : (c : Combination) → (c ≡ combination.Every → ⊥) → (c ≡ combination.EachNamed → ⊥) → (c ≡ combination.Conditional → ⊥) → has_one_fault c ≡ true
one_of_others combination.Every not_every not_named not_conditional = absurd (not_every refl)
one_of_others combination.Together not_every not_named not_conditional = refl
one_of_others combination.EachNamed not_every not_named not_conditional = absurd (not_named refl)
one_of_others combination.SomeBranch not_every not_named not_conditional = refl
one_of_others combination.OneBranch not_every not_named not_conditional = refl
one_of_others combination.Refusal not_every not_named not_conditional = refl
one_of_others (combination.Counted least most) not_every not_named not_conditional = refl
one_of_others combination.Conditional not_every not_named not_conditional = absurd (not_conditional refl)

-- notes by the paths alone
notes_same : (p : List Part) (notes : List Note) (v w : Spot) (above : List Part) → v.path ≡ w.path → v.road ≡ w.road → own_faults v above p notes ≡ own_faults w above p notes
notes_same p [] v w above path road = refl
notes_same p (note ∷ notes) v w above path road =
    ap₂ also (ap₂ (λ i r. fault note.kind note.value i (p ++ above) (p ++ r)) path road) (notes_same p notes v w above path road)

own_notes-same : (k : Rule ℕ) (v w : Spot) (above : List Part) → v.path ≡ w.path → v.road ≡ w.road → own_notes k v above ≡ own_notes k w above
own_notes-same (every p notes qs) v w above path road = notes_same p notes v w above path road
own_notes-same (together p note qs) v w above path road = refl
own_notes-same (each_named p s names) v w above path road = refl
own_notes-same (some_branch p qs) v w above path road = refl
own_notes-same (one_branch p qs) v w above path road = refl
own_notes-same (refusal p schema q) v w above path road = refl
own_notes-same (counted least most qs) v w above path road = refl
own_notes-same (conditional q cs) v w above path road = refl

module _ (r : Reading ℕ) (n : ℕ) (k : Rule ℕ) (s : Stand) (enough : ℕ) (added : ℕ → List Part) (xs : List code.Question) (are : AreAsked added k xs) where
  -- what it notes of the value, and then its questions
  pub every_told : (here : Situation) (old mid new : Observer) → combination_of k ≡ combination.Every → s.path ≡ location_of here.instance.now → s.road ≡ location_of here.evaluation.now
      → here.schema.now ≡ r.schema_path n → HearsMore (own_notes k (spot_in here) here.schema.now) old mid → Hearing s enough (λ x. faults_beside (question_faults r added x) true xs) mid new
      → Hearing s enough (rule_faults r n k) old new
  every_told here old mid new e path road above noted told =
      hearing_same s enough (λ x. joined (own_notes k x.spot (r.schema_path n)) (faults_beside (question_faults r added x) true xs)) (rule_faults r n k) old new
      (λ x at deep. every_faults (asked_faults r x) added k x.spot (r.schema_path n) xs e are ∙ sym (rule_faults-is r x n k))
      (hearing_both s enough (λ x. own_notes k x.spot (r.schema_path n)) (λ x. faults_beside (question_faults r added x) true xs) old mid new
      (record {
        hears = λ x at deep.
            hears_same (own_notes k (spot_in here) here.schema.now) (own_notes k x.spot (r.schema_path n)) old mid
            (own_notes-same k (spot_in here) x.spot here.schema.now (sym (at.path ∙ path)) (sym (at.road ∙ road)) ∙ ap (own_notes k x.spot) above) noted;
      })
      told)

  pub named_told : (old new : Observer) → combination_of k ≡ combination.EachNamed → Hearing s enough (λ x. faults_of_object (question_faults r added x) x xs) old new → Hearing s enough (rule_faults r n k) old new
  named_told old new e told =
      hearing_same s enough (λ x. faults_of_object (question_faults r added x) x xs) (rule_faults r n k) old new
      (λ x at deep. named_faults (asked_faults r x) added k x.spot (r.schema_path n) xs e are ∙ sym (rule_faults-is r x n k)) told

  pub conditional_told : (old new : Observer) → combination_of k ≡ combination.Conditional → Hearing s enough (λ x. faults_by_first (question_faults r added x) xs) old new → Hearing s enough (rule_faults r n k) old new
  conditional_told old new e told =
      hearing_same s enough (λ x. faults_by_first (question_faults r added x) xs) (rule_faults r n k) old new
      (λ x at deep. conditional_faults (asked_faults r x) added k x.spot (r.schema_path n) xs e are ∙ sym (rule_faults-is r x n k)) told

-- ---- where a condition stands first

module _ (r : Reading ℕ) (s : Stand) (enough : ℕ) (added : ℕ → List Part) (qs : List code.Question) (start : ℕ) where
  pub no_condition : (o : Observer) → length qs ≤ start → Hearing s enough (λ x. faults_by_first (question_faults r added x) (drop start qs)) o o
  no_condition o past = hearing_nothing s enough (λ x. faults_by_first (question_faults r added x) (drop start qs)) o (λ x at deep. ap (faults_by_first (question_faults r added x)) (drop_all start qs past))

  pub condition_told : (q : code.Question) (b : Bool) (old new : Observer) → start < length qs → q ≡ get_or qs start q → Tells s.place s.progress enough (λ x. asked_in r x (call_of q)) b
      → Hearing s enough (λ x. faults_beside (question_faults r added x) b (drop (start + 1) qs)) old new → Hearing s enough (λ x. faults_by_first (question_faults r added x) (drop start qs)) old new
  condition_told q b old new high is answer told =
      hearing_same s enough (λ x. faults_beside (question_faults r added x) b (drop (start + 1) qs)) (λ x. faults_by_first (question_faults r added x) (drop start qs)) old new
      (λ x at deep.
      ap (λ c. faults_beside (question_faults r added x) c (drop (start + 1) qs)) (answer.same x at.fits deep ∙ sym (question_agrees r x added q))
      ∙ sym (ap (faults_by_first (question_faults r added x)) (drop_more qs start q high ∙ ap (λ y. y ∷ drop (start + 1) qs) (sym is)))) told

-- ---- where one fault speaks for all questions

module _ (r : Reading ℕ) (n : ℕ) (k : Rule ℕ) (s : Stand) (enough : ℕ) (b : Bool) (once : has_one_fault (combination_of k) ≡ true) (verdict : Tells s.place s.progress enough (rule_in r k) b) where
  by_verdict : (x : Setting) → IsAt s x → enough ≤ x.depth → (v : Bool) → b ≡ v → rule_faults r n k x ≡ one_fault v (refused_fault k x.spot (r.schema_path n) (map (asked_faults r x) (asks k)))
  by_verdict x at deep v is = one_rule_faults r x n k v once (sym is ∙ verdict.same x at.fits deep)

  pub combined_accepted : (o : Observer) → b ≡ true → Hearing s enough (rule_faults r n k) o o
  combined_accepted o is = hearing_nothing s enough (rule_faults r n k) o (λ x at deep. by_verdict x at deep true is)

  pub combined_unwanted : (old new : Observer) → b ≡ false → ((kept : Observation) (fs : Faults) (f : Fault) → Hears kept old fs → Hears kept new (joined fs (also f none)))
      → Hearing s enough (rule_faults r n k) old new
  combined_unwanted old new is heard = record {
    hears = λ x at deep. hears_same (one_told r n k x) (rule_faults r n k x) old new (sym (by_verdict x at deep false is)) (hears_unwanted old new _ heard);
  }

  pub combined_told : (old mid new : Observer) → b ≡ false → ((kept : Observation) (fs : Faults) → Hears kept old fs → Hears kept mid fs) → Hearing s enough (one_told r n k) mid new
      → Hearing s enough (rule_faults r n k) old new
  combined_told old mid new is unheard told = record {
    hears = λ x at deep.
        hears_same (one_told r n k x) (rule_faults r n k x) old new (sym (by_verdict x at deep false is)) (hears_later (one_told r n k x) old mid new unheard (told.hears x at deep));
  }
