-- Members that are walked in the order of their names.
use Rattle.std.proofs.Common.{◌≡◌, ◌∙◌, ℕ, List, [], ◌∷◌, true, Option, None, Some, String, Global, Ordering, Less, Equal, Greater, bytes_eq, refl, sym, ap}
use Rattle.std.proofs.lemmas.Cmp.{nat_list_cmp_total}
use Rattle.std.proofs.lemmas.Slice.Eq.{bytes_eq-Decides}
use Rattle.std.specs.Borrow.{Bor}
use Rattle.std.specs.Prelude.{MatchOption}
use Rattle.serde_json.specs.View.{members_view}
use Rattle.serde_json.specs.declared.value.Value.{Value}
use Rattle.std.specs.Cmp.{first_so, second_so}
use Rattle.std.specs.Cmp.Lexicographic.{slice_cmp}
use Rattle.std.specs.Ordering.{nat_cmp, is_lt, ordering_reverse}
use Rattle.serde_json.specs.Data.{Data, Members, member}
use Rattle.serde_json.specs.Find.{get, get_member}
use Rattle.json_values.specs.Equality.{rises_from}
use Rattle.json_values.proofs.Names.{both, get_same, get_greater}
use Rattle.json_values.proofs.Kept.{behind_none}
use Rattle.json_values.specs.Rising.{are_rising}
use Rattle.compiled_keywords.specs.declared.walk.Walk.{Walk}
use Rattle.compiled_keywords.specs.Walked.{left_from, left_of, is_behind, rise_behind, IsInStep}

less_of : (o : Ordering) → is_lt o ≡ true → o ≡ Less
less_of Less h = refl
less_of Equal h = cc
less_of Greater h = cc

module _ (n : List ℕ) (e : Data) (ms : Members) where
  rising_rest : (p : Option (Bor (List ℕ))) → rise_behind p (member n e ms) ≡ true → rises_from n ms ≡ true
  rising_rest None h = h
  rising_rest (Some p) h = second_so (is_lt (slice_cmp nat_cmp p.now n)) (rises_from n ms) h

  behind_first : (p : Option (Bor (List ℕ))) → rise_behind p (member n e ms) ≡ true → is_behind p n ≡ true
  behind_first None h = refl
  behind_first (Some p) h = first_so (is_lt (slice_cmp nat_cmp p.now n)) (rises_from n ms) h

  further : (p : Option (Bor (List ℕ))) (k : List ℕ) → is_behind p n ≡ true → is_lt (slice_cmp nat_cmp n k) ≡ true → is_behind p k ≡ true
  further None k h g = refl
  further (Some p) k h g = ap is_lt (nat_list_cmp_total.trans p.now n k (less_of (slice_cmp nat_cmp p.now n) h) (less_of (slice_cmp nat_cmp n k) g))

  -- a name before the next one is none of those left
  pub none_before : (p : Option (Bor (List ℕ))) (k : List ℕ) → rise_behind p (member n e ms) ≡ true → slice_cmp nat_cmp k n ≡ Less → get_member k (member n e ms) ≡ None
  none_before p k h less = behind_none k (member n e ms) (both (is_lt (slice_cmp nat_cmp k n)) (rises_from n ms) (ap is_lt less) (rising_rest p h))

  module _ (p : Option (Bor (List ℕ))) (d : Data) (rising : rise_behind p (member n e ms) ≡ true)
      (same : (k : List ℕ) → is_behind p k ≡ true → get_member k (member n e ms) ≡ get k d) where
    -- the next one is the value's member
    pub next_there : get n d ≡ Some e
    next_there = sym (same n (behind_first p rising)) ∙ get_same n n e ms refl

    -- when it is passed
    pub rising_passed : rises_from n ms ≡ true
    rising_passed = rising_rest p rising

    pub same_passed : (k : List ℕ) → is_lt (slice_cmp nat_cmp n k) ≡ true → get_member k ms ≡ get k d
    same_passed k behind =
        let turned : slice_cmp nat_cmp k n ≡ Greater = nat_list_cmp_total.antisymm k n ∙ ap ordering_reverse (less_of (slice_cmp nat_cmp n k) behind) in
        sym (get_greater k n e ms turned) ∙ same k (further p k (behind_first p rising) behind)

-- what is left, by what the iterator gave
pub left_is : (r : Option (Bor (String Global) × Bor Value)) (before after : List (String Global × Value)) → MatchOption r ((before ≡ []) × (after ≡ [])) (λ x. before ≡ (x.0.now, x.1.now) ∷ after)
    → left_from r (members_view after) ≡ members_view before
left_is None before after h = ap members_view (sym h.0)
left_is (Some x) before after h = ap members_view (sym h)

module _ (w : Walk) (d : Data) (step : IsInStep w d) (n : List ℕ) (e : Data) (ms : Members) (next : left_of w ≡ member n e ms) where
  rising : rise_behind w.passed (member n e ms) ≡ true
  rising = ap (rise_behind w.passed) (sym next) ∙ step.rising

  same : (k : List ℕ) → is_behind w.passed k ≡ true → get_member k (member n e ms) ≡ get k d
  same k behind = ap (get_member k) (sym next) ∙ step.same k behind

  pub none_left : (k : List ℕ) → is_lt (slice_cmp nat_cmp k n) ≡ true → get_member k (left_of w) ≡ None
  none_left k less = ap (get_member k) next ∙ none_before n e ms w.passed k rising (less_of (slice_cmp nat_cmp k n) less)

  pub found_next : (k : List ℕ) → bytes_eq k n ≡ true → get k d ≡ Some e
  found_next k is = ap (λ (m : List ℕ). get m d) ((bytes_eq-Decides k n).0 is) ∙ next_there n e ms w.passed d rising same

  pub passed_on : (v : Walk) (p : Bor (List ℕ)) → v.passed ≡ Some p → p.now ≡ n → left_of v ≡ ms → IsInStep v d
  passed_on v p passed is left = record {
    rising = rw (passed, left, is) (rising_passed n e ms w.passed d rising same);
    same = λ k behind. ap (get_member k) left ∙ same_passed n e ms w.passed d rising same k (ap (λ (m : List ℕ). is_lt (slice_cmp nat_cmp m k)) (sym is) ∙ ap (λ o. is_behind o k) (sym passed) ∙ behind);
  }

-- at the first of all members
pub first_in_step : (w : Walk) (d : Data) → w.passed ≡ None → are_rising (left_of w) ≡ true → ((k : List ℕ) → get_member k (left_of w) ≡ get k d) → IsInStep w d
first_in_step w d none rising same = record { rising = rw none rising; same = λ k behind. same k }
