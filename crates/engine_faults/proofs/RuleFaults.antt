-- The faults of a rule, by those of the code's questions.
use Rattle.std.proofs.Common.{◌≡◌, ◌∙◌, ℕ, List, [], ◌∷◌, map, Bool, true, false, refl, sym, ap, ap₂}
use Rattle.json_values.specs.Parts.{Part}
use Rattle.schema_meaning.specs.Members.{count_true}
use Rattle.schema_meaning.specs.Places.{Spot}
use Rattle.schema_meaning.specs.Faults.{Faults, none, joined, join, is_none}
use Rattle.schema_meaning.specs.Questions as told
use Rattle.schema_meaning.specs.Rules.{Rule, every, together, each_named, some_branch, one_branch, refusal, counted, conditional, asks, accepts, faults, consequents, chosen, if_same, each_of_object, one_fault, own_faults, verdicts_of}
use Rattle.schema_meaning.specs.Readings.{Reading, bags, verdicts}
use Rattle.schema_meaning.specs.Circular.{key_at}
use Rattle.schema_meaning.specs.Cut.{cut_asked, cut_by_kind, cut_unless, cut_within, is_in_progress}
use Rattle.meaning_laws.proofs.Verdicts.{cut_within_agrees}
use Rattle.schema_engine.specs.declared.place.Question as code
use Rattle.schema_engine.specs.declared.combination.Combination.TheVariants as combination
use Rattle.schema_engine.specs.Questions.{Call, call, call_of, question_by}
use Rattle.schema_engine.specs.Refusals.{own_notes, has_one_fault, refused_fault}
use Rattle.schema_engine.specs.Rules.{combination_of, is_right}
use Rattle.schema_engine.specs.Verdicts.{Setting, asked_in, rule_in}
use Rattle.engine_faults.specs.Faults.{asked_faults, rule_faults, question_faults, faults_if, faults_beside, faults_by_first, AreAsked}
use Rattle.schema_engine.proofs.RuleLemmas.{map_same, asked_call}

pub map_map : {A B C : Type 0} (f : B → C) (g : A → B) (xs : List A) → map f (map g xs) ≡ map (λ x. f (g x)) xs
map_map f g [] = refl
map_map f g (x ∷ xs) = ap (λ ys. f (g x) ∷ ys) (map_map f g xs)

module _ (ask : told.Question ℕ → Faults) (added : ℕ → List Part) where
  abbrev by_code : code.Question → Faults
  by_code q = ask (question_by added q)

  -- all stand beside yes
  beside_yes : (xs : List code.Question) (qs : List (told.Question ℕ)) → map call_of xs ≡ map (call true) qs → map (question_by added) xs ≡ qs
      → faults_beside by_code true xs ≡ join (map ask qs)
  beside_yes [] [] calls asked = refl
  beside_yes [] (q ∷ qs) calls asked = absurd (cc)
  beside_yes (x ∷ xs) [] calls asked = absurd (cc)
  beside_yes (x ∷ xs) (q ∷ qs) calls asked =
      let first : call_of x ≡ call true q = cc in
      let rest : map call_of xs ≡ map (call true) qs = cc in
      let one : question_by added x ≡ q = cc in
      let more : map (question_by added) xs ≡ qs = cc in
      ap (λ b. faults_if b true (by_code x) (faults_beside by_code true xs)) (ap (λ (c : Call). c.beside) first)
      ∙ ap₂ joined (ap ask one) (beside_yes xs qs rest more)

  faults_if-same : (b c : Bool) (fs : Faults) (rest : List Faults) → faults_if c b fs (join rest) ≡ join (if_same b c fs rest)
  faults_if-same true true fs rest = refl
  faults_if-same true false fs rest = refl
  faults_if-same false true fs rest = refl
  faults_if-same false false fs rest = refl

  -- those beside an answer to a condition
  beside_chosen : (b : Bool) (xs : List code.Question) (cs : List (Bool × told.Question ℕ)) → map call_of xs ≡ map (λ c. call c.0 c.1) cs → map (question_by added) xs ≡ consequents cs
      → faults_beside by_code b xs ≡ join (chosen b cs (map ask (consequents cs)))
  beside_chosen b [] [] calls asked = refl
  beside_chosen b [] (c ∷ cs) calls asked = absurd (cc)
  beside_chosen b (x ∷ xs) [] calls asked = absurd (cc)
  beside_chosen b (x ∷ xs) (c ∷ cs) calls asked =
      let first : call_of x ≡ call c.0 c.1 = cc in
      let rest : map call_of xs ≡ map (λ c. call c.0 c.1) cs = cc in
      let one : question_by added x ≡ c.1 = cc in
      let more : map (question_by added) xs ≡ consequents cs = cc in
      ap (λ a. faults_if a b (by_code x) (faults_beside by_code b xs)) (ap (λ (c : Call). c.beside) first)
      ∙ ap₂ (faults_if c.0 b) (ap ask one) (beside_chosen b xs cs rest more)
      ∙ faults_if-same b c.0 (ask c.1) (chosen b cs (map ask (consequents cs)))

  by_first : (xs : List code.Question) (q : told.Question ℕ) (cs : List (Bool × told.Question ℕ)) → map call_of xs ≡ call true q ∷ map (λ c. call c.0 c.1) cs
      → map (question_by added) xs ≡ q ∷ consequents cs → faults_by_first by_code xs ≡ join (chosen (is_none (ask q)) cs (map ask (consequents cs)))
  by_first [] q cs calls asked = absurd (cc)
  by_first (x ∷ xs) q cs calls asked =
      let rest : map call_of xs ≡ map (λ c. call c.0 c.1) cs = cc in
      let one : question_by added x ≡ q = cc in
      let more : map (question_by added) xs ≡ consequents cs = cc in
      beside_chosen (is_none (by_code x)) xs cs rest more ∙ ap (λ p. join (chosen (is_none (ask p)) cs (map ask (consequents cs)))) one

  -- ---- what the keyword's functions tell

  pub every_faults : (k : Rule ℕ) (w : Spot) (above : List Part) (xs : List code.Question) → combination_of k ≡ combination.Every → AreAsked added k xs
      → joined (own_notes k w above) (faults_beside by_code true xs) ≡ faults k w above (map ask (asks k))
  every_faults (every p notes qs) w above xs e are = ap (joined (own_faults w above p notes)) (beside_yes xs qs are.calls are.asked)
  every_faults k w above xs e are = absurd (cc)

  pub named_faults : (k : Rule ℕ) (w : Spot) (above : List Part) (xs : List code.Question) → combination_of k ≡ combination.EachNamed → AreAsked added k xs
      → each_of_object w (join (map by_code xs)) ≡ faults k w above (map ask (asks k))
  named_faults (each_named p s names) w above xs e are =
      ap (λ fs. each_of_object w (join fs)) (sym (map_map ask (question_by added) xs) ∙ ap (map ask) are.asked)
  named_faults k w above xs e are = absurd (cc)

  pub conditional_faults : (k : Rule ℕ) (w : Spot) (above : List Part) (xs : List code.Question) → combination_of k ≡ combination.Conditional → AreAsked added k xs
      → faults_by_first by_code xs ≡ faults k w above (map ask (asks k))
  conditional_faults (conditional q cs) w above xs e are = by_first xs q cs are.calls are.asked
  conditional_faults k w above xs e are = absurd (cc)

  pub asked_answers : (k : Rule ℕ) (xs : List code.Question) → AreAsked added k xs → map by_code xs ≡ map ask (asks k)
  asked_answers k xs are = sym (map_map ask (question_by added) xs) ∙ ap (map ask) are.asked

-- one fault for all questions
pub one_faults : (k : Rule ℕ) (w : Spot) (above : List Part) (answers : List Faults) → has_one_fault (combination_of k) ≡ true
    → faults k w above answers ≡ one_fault (accepts k (verdicts_of answers)) (refused_fault k w above answers)
one_faults (every p notes qs) w above answers e = absurd (cc)
one_faults (together p note qs) w above answers e = refl
one_faults (each_named p s names) w above answers e = absurd (cc)
one_faults (some_branch p qs) w above answers e = refl
one_faults (one_branch p qs) w above answers e = refl
one_faults (refusal p schema q) w above answers e = refl
one_faults (counted least most qs) w above answers e = refl
one_faults (conditional q cs) w above answers e = absurd (cc)

pub one_is_right : (k : Rule ℕ) → has_one_fault (combination_of k) ≡ true → true ≡ is_right k
one_is_right (every p notes qs) e = absurd (cc)
one_is_right (together p note qs) e = refl
one_is_right (each_named p s names) e = absurd (cc)
one_is_right (some_branch p qs) e = refl
one_is_right (one_branch p qs) e = refl
one_is_right (refusal p schema q) e = refl
one_is_right (counted least most qs) e = refl
one_is_right (conditional q cs) e = absurd (cc)

-- ---- verdicts and faults agree

module _ (r : Reading ℕ) (x : Setting) where
  pub asked_agrees : (q : told.Question ℕ) → is_none (asked_faults r x q) ≡ cut_asked verdicts r (cut_within verdicts r x.depth) x.keys x.spot q
  unfolding asked_faults
  asked_agrees q = by_kind q.follows
    where
      unless : (b : Bool) (fs : Faults) (v : Bool) → is_none fs ≡ v → is_none (cut_unless b none fs) ≡ cut_unless b true v
      unless true fs v e = refl
      unless false fs v e = e

      by_kind : (f : Bool) → is_none (cut_by_kind f bags r (cut_within bags r x.depth) x.keys x.spot q) ≡ cut_by_kind f verdicts r (cut_within verdicts r x.depth) x.keys x.spot q
      by_kind true = unless (is_in_progress (key_at r x.spot q) x.keys) _ _ (cut_within_agrees r x.depth (key_at r x.spot q ∷ x.keys) q.site (told.asked_at x.spot q))
      by_kind false = cut_within_agrees r x.depth x.keys q.site (told.asked_at x.spot q)

  pub question_agrees : (added : ℕ → List Part) (q : code.Question) → is_none (question_faults r added x q) ≡ asked_in r x (call_of q)
  question_agrees added q = asked_agrees (question_by added q) ∙ asked_call r x q.beside (question_by added q)

  answers_agree : (k : Rule ℕ) → verdicts_of (map (asked_faults r x) (asks k)) ≡ map (cut_asked verdicts r (cut_within verdicts r x.depth) x.keys x.spot) (asks k)
  answers_agree k = map_map is_none (asked_faults r x) (asks k) ∙ map_same _ _ asked_agrees (asks k)

  pub rule_agrees : (k : Rule ℕ) → accepts k (verdicts_of (map (asked_faults r x) (asks k))) ≡ rule_in r k x
  unfolding rule_in
  rule_agrees k = ap (accepts k) (answers_agree k)

  pub count_agrees : (added : ℕ → List Part) (k : Rule ℕ) (xs : List code.Question) → AreAsked added k xs
      → count_true (map (asked_in r x) (map call_of xs)) ≡ count_true (verdicts_of (map (asked_faults r x) (asks k)))
  count_agrees added k xs are =
      ap count_true (map_map (asked_in r x) call_of xs ∙ map_same _ _ (λ q. sym (question_agrees added q)) xs ∙ sym (map_map is_none (question_faults r added x) xs))
      ∙ ap (λ fs. count_true (verdicts_of fs)) (asked_answers (asked_faults r x) added k xs are)

  -- the one fault, by the verdict
  pub one_rule_faults : (n : ℕ) (k : Rule ℕ) (b : Bool) → has_one_fault (combination_of k) ≡ true → b ≡ rule_in r k x
      → rule_faults r n k x ≡ one_fault b (refused_fault k x.spot (r.schema_path n) (map (asked_faults r x) (asks k)))
  unfolding rule_faults
  one_rule_faults n k b once is =
      one_faults k x.spot (r.schema_path n) (map (asked_faults r x) (asks k)) once
      ∙ ap (λ v. one_fault v (refused_fault k x.spot (r.schema_path n) (map (asked_faults r x) (asks k)))) (rule_agrees k ∙ sym is)

  pub rule_faults-is : (n : ℕ) (k : Rule ℕ) → rule_faults r n k x ≡ faults k x.spot (r.schema_path n) (map (asked_faults r x) (asks k))
  unfolding rule_faults
  rule_faults-is n k = refl
