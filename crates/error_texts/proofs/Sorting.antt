-- A sorted list of pairs is the list in order.
use Rattle.std.proofs.Common.{◌≡◌, ◌∙◌, ℕ, suc, ◌+◌, ◌<◌, ◌≤◌, List, [], ◌∷◌, map, length, get_or, Bool, true, false, cond, ◌&&◌, if◌then◌else◌, is_lt, sum_by, refl, sym, ap, subst, arith, IsPermutation, IsSortedBy}
use Rattle.std.proofs.lemmas.List.Sums.{sum_by-cons}
use Rattle.std.proofs.lemmas.List.Sorted.{sum_by-IsPermutation, IsPermutation-map, ranks_by, sorted_far}
use Rattle.schema_definitions.specs.Lines.{comes_first, among, in_order}
use Rattle.error_texts.proofs.Orders.{Pair, pair_cmp, pairs_total, turned, along, itself, one_place, from_not_below}

-- p comes before each
abbrev Before : Pair → List Pair → Type 0
Before p [] = Unit {0}
Before p (q ∷ qs) = (comes_first p q ≡ true) × Before p qs

abbrev Rises : List Pair → Type 0
Rises [] = Unit {0}
Rises (p ∷ ps) = Before p ps × Rises ps

-- ---- a list in order rises

before-along : (p q : Pair) (rs : List Pair) → comes_first p q ≡ true → Before q rs → Before p rs
before-along p q [] e h = tt
before-along p q (r ∷ rs) e h = (along p q r e h.0, before-along p q rs e h.1)

before-by : (b : Bool) (p r q : Pair) (qs : List Pair) → comes_first p r ≡ true → Before p (q ∷ qs) → Before p (among r qs) → Before p (if b then r ∷ q ∷ qs else q ∷ among r qs)
before-by true p r q qs e h rest = (e, h)
before-by false p r q qs e h rest = (h.0, rest)

before-among : (p r : Pair) (qs : List Pair) → comes_first p r ≡ true → Before p qs → Before p (among r qs)
before-among p r [] e h = (e, tt)
before-among p r (q ∷ qs) e h = before-by (comes_first r q) p r q qs e h (before-among p r qs e h.1)

rises-by : (b : Bool) (r q : Pair) (qs : List Pair) → comes_first r q ≡ b → Rises (q ∷ qs) → Rises (among r qs) → Rises (if b then r ∷ q ∷ qs else q ∷ among r qs)
rises-by true r q qs e h rest = ((e, before-along r q qs e h.0), h)
rises-by false r q qs e h rest = (before-among q r qs (turned r q e) h.0, rest)

rises-among : (r : Pair) (qs : List Pair) → Rises qs → Rises (among r qs)
rises-among r [] h = (tt, tt)
rises-among r (q ∷ qs) h = rises-by (comes_first r q) r q qs refl h (rises-among r qs h.1)

rises-in_order : (ps : List Pair) → Rises (in_order ps)
rises-in_order [] = tt
rises-in_order (p ∷ ps) = rises-among p (in_order ps) (rises-in_order ps)

-- ---- it has the same elements

sum-by : (f : Pair → ℕ) (b : Bool) (r q : Pair) (qs : List Pair) → sum_by f (among r qs) ≡ f r + sum_by f qs → sum_by f (if b then r ∷ q ∷ qs else q ∷ among r qs) ≡ f r + sum_by f (q ∷ qs)
sum-by f true r q qs h = sum_by-cons f r (q ∷ qs)
sum-by f false r q qs h =
    let one = sum_by-cons f q (among r qs) in
    let other = sum_by-cons f q qs in
    omega (arith, one, other, h)

sum-among : (f : Pair → ℕ) (r : Pair) (qs : List Pair) → sum_by f (among r qs) ≡ f r + sum_by f qs
sum-among f r [] = sum_by-cons f r []
sum-among f r (q ∷ qs) = sum-by f (comes_first r q) r q qs (sum-among f r qs)

sum-in_order : (f : Pair → ℕ) (ps : List Pair) → sum_by f (in_order ps) ≡ sum_by f ps
sum-in_order f [] = refl
sum-in_order f (p ∷ ps) =
    let one = sum-among f p (in_order ps) in
    let rest = sum-in_order f ps in
    let whole = sum_by-cons f p ps in
    omega (arith, one, rest, whole)

-- ---- two lists of the same elements that rise are one list

is_one : Pair → Pair → ℕ
is_one p q = cond (comes_first p q && comes_first q p) 1 0

is_one-itself : (p : Pair) → is_one p p ≡ 1
unfolding is_one
is_one-itself p = λ i. cond (itself p i && itself p i) 1 0

least-by : (b d : Bool) (p y q : Pair) (rest : ℕ) → comes_first y q ≡ b → comes_first q y ≡ d → comes_first p q ≡ true → (0 < rest → comes_first p y ≡ true) → 0 < cond (b && d) 1 0 + rest → comes_first p y ≡ true
least-by true true p y q rest e f first more some = along p q y first f
least-by true false p y q rest e f first more some = more (omega (arith, some))
least-by false d p y q rest e f first more some = more (omega (arith, some))

least : (p y : Pair) (qs : List Pair) → Before p qs → 0 < sum_by (is_one y) qs → comes_first p y ≡ true
unfolding is_one
least p y [] h some = absurd (omega (arith, some))
least p y (q ∷ qs) h some =
    let whole = sum_by-cons (is_one y) q qs in
    least-by (comes_first y q) (comes_first q y) p y q (sum_by (is_one y) qs) refl refl h.0 (least p y qs h.1) (subst (λ n. 0 < n) whole some)

abbrev Alike : List Pair → List Pair → Type 0
Alike ps qs = (f : Pair → ℕ) → sum_by f ps ≡ sum_by f qs

none-alike : (q : Pair) (qs : List Pair) → Alike [] (q ∷ qs) → ⊥
none-alike q qs h =
    let same = h (λ _. 1) in
    let more = sum_by-cons (λ _. 1) q qs in
    omega (arith, same, more)

head-first : (p q : Pair) (ps qs : List Pair) → Rises (p ∷ ps) → Alike (p ∷ ps) (q ∷ qs) → comes_first p q ≡ true
head-first p q ps qs up h =
    let same = h (is_one q) in
    let more = sum_by-cons (is_one q) q qs in
    let one = is_one-itself q in
    least p q (p ∷ ps) (itself p, up.0) (omega (arith, same, more, one))

unique : (ps qs : List Pair) → Rises ps → Rises qs → Alike ps qs → ps ≡ qs
unique [] [] up rise h = refl
unique [] (q ∷ qs) up rise h = absurd (none-alike q qs h)
unique (p ∷ ps) [] up rise h = absurd (none-alike p ps (λ f. sym (h f)))
unique (p ∷ ps) (q ∷ qs) up rise h =
    let same : p ≡ q = one_place p q (head-first p q ps qs up h) (head-first q p qs ps rise (λ f. sym (h f))) in
    let rest : ps ≡ qs = unique ps qs up.1 rise.1 (λ f.
    let whole = h f in
    let one = sum_by-cons f p ps in
    let other = sum_by-cons f q qs in
    let heads = ap f same in
    omega (arith, whole, one, other, heads)) in
    λ i. same i ∷ rest i

-- ---- what a sort ensures

module _ {X : Type 0} (key : X → Pair) where
  abbrev Far : List X → Type 0
  Far xs = (i j : ℕ) (d : X) → i ≤ j → j < length xs → is_lt (pair_cmp (key (get_or xs j d)) (key (get_or xs i d))) ≡ false

  before-far : (x : X) (xs : List X) → ((j : ℕ) (d : X) → j < length xs → is_lt (pair_cmp (key (get_or xs j d)) (key x)) ≡ false) → Before (key x) (map key xs)
  before-far x [] h = tt
  before-far x (y ∷ ys) h = (from_not_below (key x) (key y) (h 0 y (omega arith)), before-far x ys (λ j d w. h (suc j) d (omega (arith, w))))

  rises-far : (xs : List X) → Far xs → Rises (map key xs)
  rises-far [] h = tt
  rises-far (x ∷ xs) h = (before-far x xs (λ j d w. h 0 (suc j) d (omega arith) (omega (arith, w))), rises-far xs (λ i j d le w. h (suc i) (suc j) d (omega (arith, le)) (omega (arith, w))))

  pub sorted-in_order : (xs ys : List X) → IsPermutation xs ys → IsSortedBy (λ x y. is_lt (pair_cmp (key x) (key y))) ys → map key ys ≡ in_order (map key xs)
  sorted-in_order xs ys moved up =
      unique (map key ys) (in_order (map key xs)) (rises-far ys (sorted_far _ (ranks_by pairs_total key) ys up)) (rises-in_order (map key xs))
      (λ f. sum_by-IsPermutation f (map key xs) (map key ys) (IsPermutation-map key xs ys moved) ∙ sym (sum-in_order f (map key xs)))
