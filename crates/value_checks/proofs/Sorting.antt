-- Values in their order, and whether any two are equal.
use Rattle.std.proofs.Common.{◌≡◌, ℕ, zero, suc, ◌<◌, ◌≤◌, List, [], ◌∷◌, length, Bool, true, false, ◌||◌, not, Ordering, Less, Equal, Greater, Bor, refl, sym, ap, ◌∙◌, arith, get_or}
use Rattle.std.proofs.lemmas.List.Sorted.{IsPermutation-sym, All-permutation, sorted_far, ranks_by}
use Rattle.std.proofs.lemmas.Map.Keys.{IsDistinct-IsPermutation}
use Rattle.std.specs.Cmp.{first_so, second_so, both_ways}
use Rattle.std.specs.List.{All, AllByRecursion, IsDistinct}
use Rattle.std.specs.Ordering.{is_lt, is_eq, ordering_reverse}
use Rattle.serde_json.specs.declared.value.Value.{Value}
use Rattle.serde_json.specs.Data.{Data}
use Rattle.serde_json.specs.View.{view, items_view}
use Rattle.json_values.specs.Equality.{equal, is_tree, is_among, all_distinct}
use Rattle.json_values.proofs.Names.{both}
use Rattle.json_values.specs.Rising.{rises, items_rise}
use Rattle.value_checks.proofs.Keys.{order_is_total}
use Rattle.value_checks.proofs.Ties.{ties_are_equal}
use Rattle.value_checks.proofs.Trees.{equal_back}
use Rattle.value_checks.specs.Order.{order}
use Rattle.value_checks.specs.Sorts.{is_before, values_of, Sorts, some_neighbours_equal}

-- ---- names rise in each

abbrev Rises : Value → Type 0
Rises v = rises (view v) ≡ true

each_rises : (vs : List Value) → items_rise (items_view vs) ≡ true → All Rises vs
each_rises [] h k d l = absurd (omega arith)
each_rises (v ∷ vs) h zero d l = first_so (rises (view v)) (items_rise (items_view vs)) h
each_rises (v ∷ vs) h (suc k) d l = each_rises vs (second_so (rises (view v)) (items_rise (items_view vs)) h) k d (omega arith)

all_rise : (vs : List Value) → All Rises vs → items_rise (items_view vs) ≡ true
all_rise [] h = refl
all_rise (v ∷ vs) h = both (rises (view v)) (items_rise (items_view vs)) (h 0 v (omega arith)) (all_rise vs (λ k d l. h (suc k) d (omega arith)))

pub sorted_rise : (vs : List Value) (rs : List (Bor Value)) → Sorts vs rs → items_rise (items_view (values_of rs)) ≡ true
sorted_rise vs rs s = all_rise (values_of rs) (All-permutation Rises vs (values_of rs) s.moved (each_rises vs s.rise))

-- ---- equality either way

abbrev alike : Value → Value → Bool
alike v w = equal (view v) (view w) || equal (view w) (view v)

or_back : (b c : Bool) → (b || c) ≡ (c || b)
or_back true true = refl
or_back true false = refl
or_back false true = refl
or_back false false = refl

alike_back : (v w : Value) → alike v w ≡ alike w v
alike_back v w = or_back (equal (view v) (view w)) (equal (view w) (view v))

or_itself : (b : Bool) → (b || b) ≡ b
or_itself true = refl
or_itself false = refl

alike_equal : (v w : Value) → Rises v → Rises w → alike v w ≡ equal (view v) (view w)
alike_equal v w p q = ap (λ b. equal (view v) (view w) || b) (sym (equal_back (view v) (view w) p q)) ∙ or_itself (equal (view v) (view w))

-- ---- distinct values

neither : (b c : Bool) → (b || c) ≡ false → (b ≡ false) × (c ≡ false)
neither true c h = cc
neither false c h = (refl, h)

either : (b c : Bool) → b ≡ false → c ≡ false → (b || c) ≡ false
either b c p q = rw (p, q) refl

turned : (b : Bool) → not b ≡ true → b ≡ false
turned true h = cc
turned false h = refl

none_among : (v : Value) (ws : List Value) → Rises v → items_rise (items_view ws) ≡ true → is_among (view v) (items_view ws) ≡ false → AllByRecursion (λ w. alike v w ≡ false) ws
none_among v [] p q h = tt
none_among v (w ∷ ws) p q h =
    let n = neither (equal (view v) (view w)) (is_among (view v) (items_view ws)) h in (
      alike_equal v w p (first_so (rises (view w)) (items_rise (items_view ws)) q) ∙ n.0,
      none_among v ws p (second_so (rises (view w)) (items_rise (items_view ws)) q) n.1,
    )

among_none : (v : Value) (ws : List Value) → AllByRecursion (λ w. alike v w ≡ false) ws → is_among (view v) (items_view ws) ≡ false
among_none v [] h = refl
among_none v (w ∷ ws) h =
    either (equal (view v) (view w)) (is_among (view v) (items_view ws)) (neither (equal (view v) (view w)) (equal (view w) (view v)) h.0).0 (among_none v ws h.1)

distinct_from : (vs : List Value) → items_rise (items_view vs) ≡ true → all_distinct (items_view vs) ≡ true → IsDistinct alike vs
unfolding IsDistinct
distinct_from [] p h = tt
distinct_from (v ∷ vs) p h =
    let q = second_so (rises (view v)) (items_rise (items_view vs)) p in (
      none_among v vs (first_so (rises (view v)) (items_rise (items_view vs)) p) q
          (turned (is_among (view v) (items_view vs)) (first_so (not (is_among (view v) (items_view vs))) (all_distinct (items_view vs)) h)),
      distinct_from vs q (second_so (not (is_among (view v) (items_view vs))) (all_distinct (items_view vs)) h),
    )

distinct_to : (vs : List Value) → IsDistinct alike vs → all_distinct (items_view vs) ≡ true
unfolding IsDistinct
distinct_to [] h = refl
distinct_to (v ∷ vs) h = both (not (is_among (view v) (items_view vs))) (all_distinct (items_view vs)) (ap not (among_none v vs h.0)) (distinct_to vs h.1)

-- ---- values in order: each is behind those before it

abbrev Up : List Value → Type 0
Up [] = Unit {0}
Up (v ∷ vs) = AllByRecursion (λ w. is_before w v ≡ false) vs × Up vs

above_of : (v : Value) (rs : List (Bor Value)) → ((k : ℕ) (d : Bor Value) → k < length rs → is_before (get_or rs k d).now v ≡ false)
    → AllByRecursion (λ w. is_before w v ≡ false) (values_of rs)
above_of v [] h = tt
above_of v (r ∷ rs) h = (h 0 r (omega arith), above_of v rs (λ k d p. h (suc k) d (omega arith)))

up_of : (rs : List (Bor Value)) → ((i j : ℕ) (d : Bor Value) → i ≤ j → j < length rs → is_before (get_or rs j d).now (get_or rs i d).now ≡ false) → Up (values_of rs)
up_of [] h = tt
up_of (r ∷ rs) h =
    (above_of r.now rs (λ k d p. h 0 (suc k) d (omega arith) (omega arith)), up_of rs (λ i j d p q. h (suc i) (suc j) d (omega arith) (omega arith)))

tied : (o p : Ordering) → is_lt o ≡ false → is_lt p ≡ false → p ≡ ordering_reverse o → p ≡ Equal
tied Less p h g e = cc
tied Equal p h g e = e
tied Greater p h g e = (let l : is_lt p ≡ true = ap is_lt e in cc)

tie_of : (o : Ordering) → is_eq o ≡ true → o ≡ Equal
tie_of Less h = cc
tie_of Equal h = refl
tie_of Greater h = cc

-- what equals a later one equals the next
far : (x y z : Data) → rises x ≡ true → rises y ≡ true → rises z ≡ true → is_lt (order y x) ≡ false → is_lt (order z y) ≡ false → equal x z ≡ true → equal x y ≡ true
far x y z p q r h g e =
    let law = sym (ties_are_equal x z p r) ∙ e in
    let tie : order x z ≡ Equal = tie_of (order x z) (first_so (is_eq (order x z)) (is_tree x) law) in
    let same : order x y ≡ order z y = order_is_total.congr x z y tie in
    let next : order x y ≡ Equal = tied (order y x) (order x y) h (ap is_lt same ∙ g) (order_is_total.antisymm x y) in
    ties_are_equal x y p q ∙ both (is_eq (order x y)) (is_tree x) (ap is_eq next) (second_so (is_eq (order x z)) (is_tree x) law)

not_so : (b c : Bool) → (b ≡ true → c ≡ true) → c ≡ false → b ≡ false
not_so true c h e = (let t : c ≡ true = h refl in cc)
not_so false c h e = refl

later : (v w : Value) (vs : List Value) → Rises v → Rises w → items_rise (items_view vs) ≡ true → is_before w v ≡ false → AllByRecursion (λ x. is_before x w ≡ false) vs
    → equal (view v) (view w) ≡ false → AllByRecursion (λ x. alike v x ≡ false) vs
later v w [] p q r h g e = tt
later v w (x ∷ vs) p q r h g e =
    let s = first_so (rises (view x)) (items_rise (items_view vs)) r in (
      alike_equal v x p s ∙ not_so (equal (view v) (view x)) (equal (view v) (view w)) (far (view v) (view w) (view x) p q s h g.0) e,
      later v w vs p q (second_so (rises (view x)) (items_rise (items_view vs)) r) h g.1 e,
    )

neighbours_from : (vs : List Value) → items_rise (items_view vs) ≡ true → Up vs → some_neighbours_equal vs ≡ false → IsDistinct alike vs
unfolding IsDistinct
neighbours_from [] p u h = tt
neighbours_from (v ∷ []) p u h = (tt, tt)
neighbours_from (v ∷ w ∷ vs) p u h =
    let n = neither (equal (view v) (view w)) (some_neighbours_equal (w ∷ vs)) h in
    let pv = first_so (rises (view v)) (items_rise (items_view (w ∷ vs))) p in
    let rest = second_so (rises (view v)) (items_rise (items_view (w ∷ vs))) p in
    let pw = first_so (rises (view w)) (items_rise (items_view vs)) rest in
    ((alike_equal v w pv pw ∙ n.0, later v w vs pv pw (second_so (rises (view w)) (items_rise (items_view vs)) rest) u.0.0 u.1.0 n.0), neighbours_from (w ∷ vs) rest u.1 n.1)

neighbours_to : (vs : List Value) → IsDistinct alike vs → some_neighbours_equal vs ≡ false
unfolding IsDistinct
neighbours_to [] h = refl
neighbours_to (v ∷ []) h = refl
neighbours_to (v ∷ w ∷ vs) h =
    either (equal (view v) (view w)) (some_neighbours_equal (w ∷ vs)) (neither (equal (view v) (view w)) (equal (view w) (view v)) h.0.0).0 (neighbours_to (w ∷ vs) h.1)

pub neighbours_tell : (vs : List Value) (rs : List (Bor Value)) → Sorts vs rs → not (some_neighbours_equal (values_of rs)) ≡ all_distinct (items_view vs)
neighbours_tell vs rs s =
    let ws = values_of rs in
    let up = up_of rs (sorted_far (λ r q. is_before r.now q.now) (ranks_by order_is_total (λ (r : Bor Value). view r.now)) rs s.ordered) in
    both_ways (not (some_neighbours_equal ws)) (all_distinct (items_view vs))
    (λ h. distinct_to vs (IsDistinct-IsPermutation alike alike_back ws vs (IsPermutation-sym vs ws s.moved) (neighbours_from ws (sorted_rise vs rs s) up (turned (some_neighbours_equal ws) h))))
    (λ h. ap not (neighbours_to ws (IsDistinct-IsPermutation alike alike_back vs ws s.moved (distinct_from vs s.rise h))))
