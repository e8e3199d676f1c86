-- Values sought among others in their order.
use borrow.Author.Tests.{ltb-true, ltb-false}
use Rattle.std.proofs.Common.{◌≡◌, ◌⊎◌, inl, inr, ℕ, zero, suc, ◌<◌, ◌≤◌, List, [], ◌∷◌, length, Bool, true, false, ◌||◌, ◌&&◌, Ordering, Less, Equal, Greater, Bor, refl, sym, ap, ◌∙◌, arith, get_or, nat_lt}
use Rattle.std.proofs.lemmas.Cmp.{tied_back}
use Rattle.std.proofs.lemmas.List.Sorted.{list_any-IsPermutation, searchable_from_sorted}
use Rattle.std.specs.Cmp.{first_so, second_so}
use Rattle.std.specs.List.{list_any}
use Rattle.std.specs.List.Sorted.{IsSortedBy, IsPartitionPoint, IsNonDecreasingBy}
use Rattle.std.specs.Ordering.{is_eq, ordering_index}
use Rattle.serde_json.specs.declared.value.Value.{Value}
use Rattle.serde_json.specs.Data.{Data}
use Rattle.serde_json.specs.View.{view, items_view}
use Rattle.json_values.specs.Equality.{equal, is_tree, is_among}
use Rattle.json_values.proofs.Names.{both}
use Rattle.json_values.specs.Rising.{rises, items_rise}
use Rattle.value_checks.proofs.Keys.{order_is_total}
use Rattle.value_checks.proofs.Ties.{ties_are_equal}
use Rattle.value_checks.specs.Order.{order}
use Rattle.value_checks.specs.Sorts.{is_before, values_of, Sorts}

any_among : (d : Data) (vs : List Value) → list_any (λ v. equal d (view v)) vs ≡ is_among d (items_view vs)
any_among d [] = refl
any_among d (v ∷ vs) = ap (λ b. equal d (view v) || b) (any_among d vs)

any_of_values : (d : Data) (rs : List (Bor Value)) → list_any (λ r. equal d (view r.now)) rs ≡ list_any (λ v. equal d (view v)) (values_of rs)
any_of_values d [] = refl
any_of_values d (r ∷ rs) = ap (λ b. equal d (view r.now) || b) (any_of_values d rs)

pub sorted_among : (vs : List Value) (rs : List (Bor Value)) → Sorts vs rs → (d : Data) → list_any (λ r. equal d (view r.now)) rs ≡ is_among d (items_view vs)
sorted_among vs rs s d = any_of_values d rs ∙ sym (list_any-IsPermutation (λ v. equal d (view v)) vs (values_of rs) s.moved) ∙ any_among d vs

rises_at : (rs : List (Bor Value)) → items_rise (items_view (values_of rs)) ≡ true → (k : ℕ) (x : Bor Value) → k < length rs → rises (view (get_or rs k x).now) ≡ true
rises_at [] h k x l = absurd (omega arith)
rises_at (r ∷ rs) h zero x l = first_so (rises (view r.now)) (items_rise (items_view (values_of rs))) h
rises_at (r ∷ rs) h (suc k) x l = rises_at rs (second_so (rises (view r.now)) (items_rise (items_view (values_of rs))) h) k x (omega arith)

any_at : {X : Type 0} (p : X → Bool) (xs : List X) (k : ℕ) (x : X) → k < length xs → p (get_or xs k x) ≡ true → list_any p xs ≡ true
any_at p [] k x l h = absurd (omega arith)
any_at p (y ∷ xs) zero x l h = rw h refl
any_at p (y ∷ xs) (suc k) x l h = or_true (p y) (list_any p xs) (any_at p xs k x (omega arith) h)
  where
    or_true : (b c : Bool) → c ≡ true → (b || c) ≡ true
    or_true true c e = refl
    or_true false c e = e

not_any : {X : Type 0} (p : X → Bool) (xs : List X) → ((k : ℕ) (x : X) → k < length xs → p (get_or xs k x) ≡ false) → list_any p xs ≡ false
not_any p [] h = refl
not_any p (y ∷ xs) h = rw (h 0 y (omega arith)) (not_any p xs (λ k x l. h (suc k) x (omega arith)))

tie_of : (o : Ordering) (t : Bool) → (is_eq o && t) ≡ true → o ≡ Equal
tie_of Less t h = cc
tie_of Equal t h = refl
tie_of Greater t h = cc

false_or : (b : Bool) → (b ≡ true → ⊥) → b ≡ false
false_or true h = absurd (h refl)
false_or false h = refl

and_false : (b : Bool) → (b && false) ≡ false
and_false true = refl
and_false false = refl

pub found : (d : Data) (rs : List (Bor Value)) → rises d ≡ true → items_rise (items_view (values_of rs)) ≡ true → (i : ℕ) (x : Bor Value) → i < length rs
    → order (view (get_or rs i x).now) d ≡ Equal → equal d (view (get_or rs i x).now) ≡ list_any (λ r. equal d (view r.now)) rs
found d rs p q i x l h = by (is_tree d) refl
  where
    by : (t : Bool) → is_tree d ≡ t → equal d (view (get_or rs i x).now) ≡ list_any (λ r. equal d (view r.now)) rs
    by true t =
        let e = view (get_or rs i x).now in
        let same : equal d e ≡ true = ties_are_equal d e p (rises_at rs q i x l) ∙ both (is_eq (order d e)) (is_tree d) (ap is_eq (tied_back order_is_total e d h)) t in
        same ∙ sym (any_at (λ r. equal d (view r.now)) rs i x l same)
    by false t =
        let none : (k : ℕ) (y : Bor Value) → k < length rs → equal d (view (get_or rs k y).now) ≡ false = λ k y m.
        ties_are_equal d (view (get_or rs k y).now) p (rises_at rs q k y m) ∙ ap (λ b. is_eq (order d (view (get_or rs k y).now)) && b) t ∙ and_false (is_eq (order d (view (get_or rs k y).now))) in
        none i x l ∙ sym (not_any (λ r. equal d (view r.now)) rs none)

less_or_greater : (d e : Data) → rises d ≡ true → rises e ≡ true → (order e d ≡ Equal → ⊥) → equal d e ≡ false
less_or_greater d e p q other =
    false_or (equal d e) (λ h. other (tied_back order_is_total d e (tie_of (order d e) (is_tree d) (sym (ties_are_equal d e p q) ∙ h))))

pub missed : (d : Data) (rs : List (Bor Value)) → rises d ≡ true → items_rise (items_view (values_of rs)) ≡ true → (i : ℕ) → i ≤ length rs
    → IsPartitionPoint (λ (r : Bor Value). order (view r.now) d ≡ Less) (λ (r : Bor Value). order (view r.now) d ≡ Greater) rs i
    → list_any (λ r. equal d (view r.now)) rs ≡ false
missed d rs p q i b parts = not_any (λ r. equal d (view r.now)) rs each
  where
    split : (k : ℕ) (t : Bool) → nat_lt k i ≡ t → (k < i) ⊎ (i ≤ k)
    split k true e = inl (ltb-true k i e)
    split k false e = inr (ltb-false k i e)

    at : (k : ℕ) (x : Bor Value) → k < length rs → (order (view (get_or rs k x).now) d ≡ Equal → ⊥)
    at k x l e = cases (split k (nat_lt k i) refl)
      where
        cases : (k < i) ⊎ (i ≤ k) → ⊥
        cases (inl s) = (let f : order (view (get_or rs k x).now) d ≡ Less = parts.0 k x (omega arith) s in cc)
        cases (inr s) = (let f : order (view (get_or rs k x).now) d ≡ Greater = parts.1 k x s l in cc)

    each : (k : ℕ) (x : Bor Value) → k < length rs → equal d (view (get_or rs k x).now) ≡ false
    each k x l = less_or_greater d (view (get_or rs k x).now) p (rises_at rs q k x l) (at k x l)

pub rising_test : (d : Data) (rs : List (Bor Value)) → IsSortedBy (λ r s. is_before r.now s.now) rs → IsNonDecreasingBy (λ (r : Bor Value). ordering_index (order (view r.now) d)) rs
rising_test d rs s = searchable_from_sorted order_is_total (λ (r : Bor Value). view r.now) rs d s
