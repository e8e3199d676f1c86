-- The loops over a node's keywords.
use Rattle.std.proofs.Common.{◌≡◌, ◌<◌, ◌≤◌, ◌+◌, ℕ, zero, suc, List, [], ◌∷◌, Bool, true, false, ◌&&◌, map, drop, length, get_or, refl, sym, ap, ap₂, ◌∙◌, subst, arith}
use Rattle.std.proofs.lemmas.List.{drop_more, drop_all}
use Rattle.schema_meaning.specs.Members.{In, first, later, all_true}
use Rattle.schema_meaning.specs.Keywords.{Shape, rule}
use Rattle.schema_meaning.specs.Readings.{Reading}
use Rattle.schema_meaning.specs.Rules.{Rule}
use Rattle.schema_engine.specs.declared.node.Node.{Node}
use Rattle.schema_engine.specs.declared.place.Place.{Place}
use Rattle.schema_engine.specs.declared.place.Question as code
use Rattle.schema_engine.specs.Matches.{Answers}
use Rattle.schema_engine.specs.Places.{value_at}
use Rattle.schema_engine.specs.Questions.{call_of}
use Rattle.schema_engine.specs.Rules.{all_beside, is_right}
use Rattle.schema_engine.specs.Together.{answered, PushesBoth}
use Rattle.schema_engine.specs.Graphs.{reading_of, rank_at}
use Rattle.schema_engine.specs.Verdicts.{Setting, Tells, asked_in, rule_in, size}
use Rattle.schema_engine.proofs.Left.{KeywordsLeft}
use Rattle.schema_engine.proofs.RuleLemmas.{rule_combined}

-- ---- lists and truth values

-- what stands at one position
pub same_at : {K : Type 0} (i j : ℕ) (ks : List K) (x y : K) → i ≡ j → i < length ks → x ≡ get_or ks i x → y ≡ get_or ks j y → x ≡ y
same_at i j [] x y is high here there = absurd (omega arith)
same_at zero zero (k ∷ ks) x y is high here there = here ∙ sym there
same_at zero (suc j) (k ∷ ks) x y is high here there = absurd (omega arith)
same_at (suc i) zero (k ∷ ks) x y is high here there = absurd (omega arith)
same_at (suc i) (suc j) (k ∷ ks) x y is high here there = same_at i j ks x y (omega arith) (omega arith) here there

left_true : (b c : Bool) → (b && c) ≡ true → b ≡ true
left_true true c e = refl
left_true false c e = absurd (cc)

right_true : (b c : Bool) → (b && c) ≡ true → c ≡ true
right_true true c e = e
right_true false c e = absurd (cc)

true_of : {K : Type 0} (f : K → Bool) (ks : List K) (k : K) → In k ks → all_true (map f ks) ≡ true → f k ≡ true
true_of f [] k i e = elim i [ ]
true_of f (j ∷ ks) k first e = left_true _ _ e
true_of f (j ∷ ks) k (later i) e = true_of f ks k i (right_true _ _ e)

-- where two are not both true, not all are
not_all : {K : Type 0} (f : K → Bool) (ks : List K) (j k : K) → In j ks → In k ks → (f j && f k) ≡ false → all_true (map f ks) ≡ false
not_all f ks j k one other refused = by_test (all_true (map f ks)) refl
  where
    by_test : (b : Bool) → all_true (map f ks) ≡ b → b ≡ false
    by_test true e = sym (ap₂ (λ b c. b && c) (true_of f ks j one e) (true_of f ks k other e)) ∙ refused
    by_test false e = refl

module _ {K : Type 0} (shape : K → Shape ℕ) (matches : Answers) (nodes : List (Node K)) (n : ℕ) (p : Place) (progress : List ℕ) where
  abbrev told : K → Setting → Bool
  told k x = rule_in (reading_of shape matches nodes) (rule matches (value_at p) (shape k)) x

  abbrev answer : (Setting → Bool) → Bool → Type 0
  answer = Tells p progress (size nodes (value_at p) progress (rank_at nodes n))

  -- ---- one by one

  module _ (i : ℕ) (all ks : List K) (k : K) (high : i < length ks) (is : k ≡ get_or ks i k) (left : KeywordsLeft shape matches nodes n p progress all (drop i ks)) where
    keywords_next : KeywordsLeft shape matches nodes n p progress all (k ∷ drop (i + 1) ks)
    keywords_next = subst (KeywordsLeft shape matches nodes n p progress all) (drop_more ks i k high ∙ ap (λ y. y ∷ drop (i + 1) ks) (sym is)) left

    pub keywords_yes : answer (told k) true → KeywordsLeft shape matches nodes n p progress all (drop (i + 1) ks)
    keywords_yes taken = record {
      left = λ x fits deep. (let e = keywords_next.left x fits deep in e ∙ rw (sym (taken.same x fits deep)) refl);
    }

    pub keywords_no : answer (told k) false → answer (λ x. all_true (map (λ k. rule_in (reading_of shape matches nodes) (rule matches (value_at p) (shape k)) x) all)) false
    keywords_no refused = record {
      same = λ x fits deep. (let e = keywords_next.left x fits deep in sym (e ∙ rw (sym (refused.same x fits deep)) refl));
    }

  pub keywords_end : (i : ℕ) (all ks : List K) → length ks ≤ i → KeywordsLeft shape matches nodes n p progress all (drop i ks)
      → answer (λ x. all_true (map (λ k. rule_in (reading_of shape matches nodes) (rule matches (value_at p) (shape k)) x) all)) true
  keywords_end i all ks past left = record {
    same = λ x fits deep.
        sym (left.left x fits deep ∙ ap (λ js. all_true (map (λ k. rule_in (reading_of shape matches nodes) (rule matches (value_at p) (shape k)) x) js)) (drop_all i ks past));
  }

  -- ---- two together

  module _ (j k : K) where
    pub one_yes : answer (λ x. told j x && told k x) true → answer (told j) true
    one_yes taken = record { same = λ x fits deep. sym (left_true _ _ (sym (taken.same x fits deep))) }

    pub other_yes : answer (λ x. told j x && told k x) true → answer (told k) true
    other_yes taken = record { same = λ x fits deep. sym (right_true _ _ (sym (taken.same x fits deep))) }

    pub both_no : (ks : List K) → In j ks → In k ks → answer (λ x. told j x && told k x) false
        → answer (λ x. all_true (map (λ k. rule_in (reading_of shape matches nodes) (rule matches (value_at p) (shape k)) x) ks)) false
    both_no ks one other refused = record { same = λ x fits deep. sym (not_all (λ i. told i x) ks j k one other (sym (refused.same x fits deep))) }

-- by the answers to questions that were pushed for both
module _ (r : Reading ℕ) (p : Place) (progress : List ℕ) (enough : ℕ) (j k : Rule ℕ) where
  rule_answered : (x : Setting) (i : Rule ℕ) → is_right i ≡ true → rule_in r i x ≡ answered i (asked_in r x)
  rule_answered x i right = rule_combined r x i ∙ rw right refl

  pub both_told : (old new : List code.Question) (start : ℕ) (b : Bool) → start ≡ length old → is_right j ≡ true → is_right k ≡ true → PushesBoth old new j k
      → Tells p progress enough (λ x. all_beside (asked_in r x) true (map call_of (drop start new))) b
      → Tells p progress enough (λ x. rule_in r j x && rule_in r k x) b
  both_told old new start b is one other pushes tells = record {
    same = λ x fits deep.
        tells.same x fits deep
        ∙ ap (λ i. all_beside (asked_in r x) true (map call_of (drop i new))) is
        ∙ pushes.all (asked_in r x)
        ∙ sym (ap₂ (λ a c. a && c) (rule_answered x j one) (rule_answered x k other));
  }
