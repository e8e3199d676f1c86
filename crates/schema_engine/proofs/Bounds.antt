-- Numbers in progress that lie within bounds.
use Rattle.std.proofs.Common.{◌≡◌, ◌<◌, ◌≤◌, ◌==◌, ℕ, List, [], ◌∷◌, Bool, true, false, ◌&&◌, eqb-true, refl, sym, ap, ◌∙◌, arith}
use Rattle.std.specs.List.{filter}
use Rattle.std.proofs.lemmas.Bool.Decides.{nat_tests}
use Rattle.schema_engine.specs.Progress.{is_among, is_between}

pub between : (l h n : ℕ) → l ≤ n → n ≤ h → is_between l h n ≡ true
between l h n low high = grind (arith, nat_tests)

low_enough : (l h n : ℕ) → is_between l h n ≡ true → l ≤ n
low_enough l h n e = grind (arith, nat_tests)

high_enough : (l h n : ℕ) → is_between l h n ≡ true → n ≤ h
high_enough l h n e = grind (arith, nat_tests)

and_false : (b : Bool) → false ≡ (b && false)
and_false true = refl
and_false false = refl

differ : (n m : ℕ) → (n ≡ m → ⊥) → (n == m) ≡ false
differ n m other = by_test (n == m) refl
  where
    by_test : (b : Bool) → (n == m) ≡ b → b ≡ false
    by_test true e = absurd (other (eqb-true n m e))
    by_test false e = refl

-- a number is among those within the bounds if it is within them, and among all
among_kept : (l h n : ℕ) (ms : List ℕ) → is_among n (filter (is_between l h) ms) ≡ (is_between l h n && is_among n ms)
among_kept l h n [] = and_false (is_between l h n)
among_kept l h n (m ∷ ms) = by_test (is_between l h m) (n == m) refl refl (among_kept l h n ms)
  where
    by_test : (b c : Bool) → is_between l h m ≡ b → (n == m) ≡ c → is_among n (filter (is_between l h) ms) ≡ (is_between l h n && is_among n ms)
        → is_among n (filter (is_between l h) (m ∷ ms)) ≡ (is_between l h n && is_among n (m ∷ ms))
    by_test true true e same rest =
        let here : is_between l h n ≡ true = ap (is_between l h) (eqb-true n m same) ∙ e in
        rw (e, same, here) refl
    by_test true false e other rest = rw (e, other) rest
    by_test false true e same rest =
        let here : is_between l h n ≡ false = ap (is_between l h) (eqb-true n m same) ∙ e in
        rw (e, same, here) (rest ∙ ap (λ b. b && is_among n ms) here)
    by_test false false e other rest = rw (e, other) rest

below_none : (l h n : ℕ) → n < l → is_between l h n ≡ false
below_none l h n low = grind (arith, nat_tests)

above_none : (l h n : ℕ) → h < n → is_between l h n ≡ false
above_none l h n high = grind (arith, nat_tests)

pub among_below : (l h n : ℕ) (ms : List ℕ) → n < l → is_among n (filter (is_between l h) ms) ≡ false
among_below l h n ms low = among_kept l h n ms ∙ rw (below_none l h n low) refl

pub among_above : (l h n : ℕ) (ms : List ℕ) → h < n → is_among n (filter (is_between l h) ms) ≡ false
among_above l h n ms high = among_kept l h n ms ∙ rw (above_none l h n high) refl

pub among_within : (l h n : ℕ) (ms : List ℕ) → l ≤ n → n ≤ h → is_among n (filter (is_between l h) ms) ≡ is_among n ms
among_within l h n ms low high = among_kept l h n ms ∙ rw (between l h n low high) refl

-- wider bounds keep all that narrower ones keep
pub kept_within : (l h m n : ℕ) (ms : List ℕ) → m ≤ l → h ≤ n → filter (is_between m n) (filter (is_between l h) ms) ≡ filter (is_between l h) ms
kept_within l h m n [] low high = refl
kept_within l h m n (x ∷ ms) low high = by_test (is_between l h x) refl (kept_within l h m n ms low high)
  where
    by_test : (b : Bool) → is_between l h x ≡ b → filter (is_between m n) (filter (is_between l h) ms) ≡ filter (is_between l h) ms
        → filter (is_between m n) (filter (is_between l h) (x ∷ ms)) ≡ filter (is_between l h) (x ∷ ms)
    by_test true e rest =
        let from : l ≤ x = low_enough l h x e in
        let to : x ≤ h = high_enough l h x e in
        let wide : is_between m n x ≡ true = between m n x (omega (arith, from)) (omega (arith, to)) in
        rw (e, wide) (ap (λ ys. x ∷ ys) rest)
    by_test false e rest = rw e rest

-- a number that comes before those within bounds, in bounds that are as wide
pub entered_before : (m n l h t : ℕ) (ns rest : List ℕ) → ns ≡ filter (is_between l h) rest → m ≤ l → h ≤ n → m ≤ t → t ≤ n → filter (is_between m n) (t ∷ ns) ≡ t ∷ ns
entered_before m n l h t ns rest is low high from to =
    let here : is_between m n t ≡ true = between m n t from to in
    rw here (ap (λ ys. t ∷ ys) (ap (filter (is_between m n)) is ∙ kept_within l h m n rest low high ∙ sym is))

-- another number than the first is among the others, or not at all
pub among_others : (l h n m : ℕ) (ms : List ℕ) → l ≤ n → n ≤ h → (n ≡ m → ⊥) → is_among n (filter (is_between l h) (m ∷ ms)) ≡ is_among n ms
among_others l h n m ms low high other =
    let no : (n == m) ≡ false = differ n m other in
    among_within l h n (m ∷ ms) low high ∙ rw no refl
