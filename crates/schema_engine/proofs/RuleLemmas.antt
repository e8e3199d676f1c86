-- What a rule accepts, by the answers to the engine's questions.
use Rattle.std.proofs.Common.{◌≡◌, ◌==◌, ℕ, zero, suc, List, [], ◌∷◌, Bool, true, false, not, ◌&&◌, map, refl, ap, ap₂, ◌∙◌, arith, Some, None}
use Rattle.std.proofs.lemmas.Bool.Decides.{nat_tests}
use Rattle.schema_meaning.specs.Members.{is_empty, all_true, some_true, count_true}
use Rattle.schema_meaning.specs.Places.{Spot, Key, path_after, called_after, value_after}
use Rattle.schema_meaning.specs.Questions.{Question, asked_at}
use Rattle.schema_meaning.specs.Rules.{Rule, every, together, each_named, some_branch, one_branch, refusal, counted, conditional, asks, accepts, consequents, chosen, if_same}
use Rattle.schema_meaning.specs.Readings.{Reading, rules, verdicts}
use Rattle.schema_meaning.specs.Circular.{key_at}
use Rattle.schema_meaning.specs.Cut.{cut_unless, cut_by_kind, cut_asked, cut_within, is_in_progress}
use Rattle.schema_engine.specs.Questions.{Call, call, question_of}
use Rattle.schema_engine.specs.Rules.{combination_of, is_right, questions_of, is_counted, all_beside, passes, combined}
use Rattle.schema_engine.specs.Verdicts.{Setting, asked_in, rule_in}

pub map_same : {A B : Type 0} (f g : A → B) → ((a : A) → f a ≡ g a) → (xs : List A) → map f xs ≡ map g xs
map_same f g h [] = refl
map_same f g h (x ∷ xs) = ap₂ (λ y ys. y ∷ ys) (h x) (map_same f g h xs)

-- two spots that differ in their roads alone
pub record AreSame (v w : Spot) : Type 0 where
  pub value : v.value ≡ w.value
  pub path : v.path ≡ w.path
  pub called : v.called ≡ w.called

module _ (r : Reading ℕ) where
  key_same : (v w : Spot) (q : Question ℕ) → AreSame v w → key_at r v q ≡ key_at r w q
  key_same v w q same = rw (same.path, same.called) refl

  pub asked_at_same : (v w : Spot) (q : Question ℕ) → AreSame v w → AreSame (asked_at v q) (asked_at w q)
  asked_at_same v w q same = record {
    value = ap (λ d. value_after d q.step) same.value;
    path = ap (λ p. path_after p q.step) same.path;
    called = ap (λ c. called_after c q.step) same.called;
  }

  -- the road decides no verdict
  pub roadless : (n : ℕ) (keys : List Key) (s : ℕ) (v w : Spot) → AreSame v w → cut_within verdicts r n keys s v ≡ cut_within verdicts r n keys s w
  unfolding cut_within
  roadless zero keys s v w same = refl
  roadless (suc n) keys s v w same =
      ap (λ d. all_true (map (λ k. accepts k (map (cut_asked verdicts r (cut_within verdicts r n) keys v) (asks k))) (rules r s d))) same.value
      ∙ ap all_true (map_same (λ k. accepts k (map (cut_asked verdicts r (cut_within verdicts r n) keys v) (asks k)))
      (λ k. accepts k (map (cut_asked verdicts r (cut_within verdicts r n) keys w) (asks k)))
      (λ k. ap (accepts k) (map_same (cut_asked verdicts r (cut_within verdicts r n) keys v) (cut_asked verdicts r (cut_within verdicts r n) keys w)
      (λ q. one (λ keys s v w same. roadless n keys s v w same) q.follows q) (asks k)))
      (rules r s w.value))
    where
      one : ((keys : List Key) (s : ℕ) (v w : Spot) → AreSame v w → cut_within verdicts r n keys s v ≡ cut_within verdicts r n keys s w)
          → (b : Bool) (q : Question ℕ) → cut_by_kind b verdicts r (cut_within verdicts r n) keys v q ≡ cut_by_kind b verdicts r (cut_within verdicts r n) keys w q
      one again true q =
          rw (key_same v w q same) (ap (λ b. cut_unless (is_in_progress (key_at r w q) keys) true b) (again (key_at r w q ∷ keys) q.site (asked_at v q) (asked_at w q) (asked_at_same v w q same)))
      one again false q = again keys q.site (asked_at v q) (asked_at w q) (asked_at_same v w q same)

  module _ (x : Setting) where
    -- the parts that a question adds to the road decide nothing
    pub asked_call : (b : Bool) (q : Question ℕ) → cut_asked verdicts r (cut_within verdicts r x.depth) x.keys x.spot q ≡ asked_in r x (call b q)
    unfolding asked_in
    asked_call b q = one q.follows
      where
        same : AreSame (asked_at x.spot q) (asked_at x.spot (question_of (call b q)))
        same = record { value = refl; path = refl; called = refl }

        one : (f : Bool) → cut_by_kind f verdicts r (cut_within verdicts r x.depth) x.keys x.spot q ≡ cut_by_kind f verdicts r (cut_within verdicts r x.depth) x.keys x.spot (question_of (call b q))
        one true = ap (λ c. cut_unless (is_in_progress (key_at r x.spot q) x.keys) true c) (roadless x.depth (key_at r x.spot q ∷ x.keys) q.site _ _ same)
        one false = roadless x.depth x.keys q.site _ _ same

abbrev CalledAs : (Question ℕ → Bool) → (Call → Bool) → Type 0
CalledAs ask calls = (b : Bool) (q : Question ℕ) → ask q ≡ calls (call b q)

module _ (ask : Question ℕ → Bool) (calls : Call → Bool) (same : CalledAs ask calls) where
  each_beside : (qs : List (Question ℕ)) → all_true (map ask qs) ≡ all_beside calls true (map (call true) qs)
  each_beside [] = refl
  each_beside (q ∷ qs) = ap₂ (λ a b. a && b) (same true q) (each_beside qs)

  count_calls : (qs : List (Question ℕ)) → map ask qs ≡ map calls (map (call true) qs)
  count_calls [] = refl
  count_calls (q ∷ qs) = ap₂ (λ y ys. y ∷ ys) (same true q) (count_calls qs)

  some_counted : (bs : List Bool) → some_true bs ≡ is_counted 1 None (count_true bs)
  some_counted [] = refl
  some_counted (true ∷ bs) = grind (arith, nat_tests)
  some_counted (false ∷ bs) = some_counted bs

  one_counted : (n : ℕ) → (n == 1) ≡ is_counted 1 (Some 1) n
  one_counted n = grind (arith, nat_tests)

  none_counted : (b : Bool) → not (all_true (b ∷ [])) ≡ is_counted 0 (Some 0) (count_true (b ∷ []))
  none_counted true = refl
  none_counted false = refl

  if_same_passes : (b c x : Bool) (xs : List Bool) → all_true (if_same b c x xs) ≡ (passes c b x && all_true xs)
  if_same_passes true true x xs = refl
  if_same_passes true false x xs = refl
  if_same_passes false true x xs = refl
  if_same_passes false false x xs = refl

  chosen_beside : (b : Bool) (cs : List (Bool × Question ℕ)) → all_true (chosen b cs (map ask (consequents cs))) ≡ all_beside calls b (map (λ c. call c.0 c.1) cs)
  chosen_beside b [] = refl
  chosen_beside b (c ∷ cs) =
      if_same_passes b c.0 (ask c.1) (chosen b cs (map ask (consequents cs)))
      ∙ ap₂ (λ y z. passes c.0 b y && z) (same c.0 c.1) (chosen_beside b cs)

  -- the rule's verdict is that of its combination over the engine's questions
  combined_rule : (k : Rule ℕ) → accepts k (map ask (asks k)) ≡ (is_right k && combined (combination_of k) calls (questions_of k))
  combined_rule (every p notes qs) = ap (λ b. is_empty notes && b) (each_beside qs)
  combined_rule (together p note qs) = each_beside qs
  combined_rule (each_named p s names) = each_beside (asks (each_named p s names))
  combined_rule (some_branch p qs) = ap some_true (count_calls qs) ∙ some_counted (map calls (map (call true) qs))
  combined_rule (one_branch p qs) = ap (λ bs. count_true bs == 1) (count_calls qs) ∙ one_counted (count_true (map calls (map (call true) qs)))
  combined_rule (refusal p schema q) = ap (λ b. not (all_true (b ∷ []))) (same true q) ∙ none_counted (calls (call true q))
  combined_rule (counted None most qs) = ap (λ bs. is_counted 1 most (count_true bs)) (count_calls qs)
  combined_rule (counted (Some least) most qs) = ap (λ bs. is_counted least most (count_true bs)) (count_calls qs)
  combined_rule (conditional q cs) =
      chosen_beside (ask q) cs ∙ ap (λ b. all_beside calls b (map (λ c. call c.0 c.1) cs)) (same true q)

pub rule_combined : (r : Reading ℕ) (x : Setting) (k : Rule ℕ) → rule_in r k x ≡ (is_right k && combined (combination_of k) (asked_in r x) (questions_of k))
unfolding rule_in
rule_combined r x k = combined_rule (cut_asked verdicts r (cut_within verdicts r x.depth) x.keys x.spot) (asked_in r x) (asked_call r x) k
