-- A text cut at the last byte c.
use Rattle.std.proofs.Common.{◌≡◌, ◌≢◌, ◌==◌, ◌<◌, ◌≤◌, ◌+◌, ◌-◌, ◌∙◌, ◌++◌, ◌||◌, List, [], ◌∷◌, ℕ, zero, suc, Bool, not, true, false, length, get_or, take, drop, arith, ap, refl, sym, ne_eqb, eq-eqb, Option, Some, None, Bor, MatchOption, if◌then◌else◌, length-drop, length-append}
use Rattle.std.specs.List.{suffix_len, before_last, after_last}
use Rattle.std.specs.Str.Pattern.{RFindsChar}
use Rattle.std.proofs.lemmas.List.Sums.{suffix_len_is}
use Rattle.std.proofs.lemmas.List.{get_or-drop, drop_more, take-append-drop, get_or-append-add}
use Rattle.std.proofs.Math.Seq.{get_or-append_seam, take-append_seam, drop-append-add}
use Rattle.std.proofs.lemmas.Bool.{eqb-true, both_ways}
use Rattle.std.proofs.lemmas.Str.Pattern.{NoCharPasses-char}
use Rattle.std.proofs.lemmas.Str.{len_utf8_ascii}
use Rattle.uri_grammar.specs.Texts.{has, cut_at_last}
use Rattle.uri_grammar.proofs.Cuts.{has_one, has_none}

abbrev pub IsRSplitOnceResult : ℕ → List ℕ → Option (Bor (List ℕ) × Bor (List ℕ)) → Type 0
IsRSplitOnceResult c bs r = MatchOption r (RFindsChar c bs None) (λ x. (i : ℕ) × (j : ℕ) × RFindsChar c bs (Some (i, j)) × (x.0.now ≡ take i bs) × (x.1.now ≡ drop j bs) × (i ≤ j) × (length x.0.now ≡ i) × (length x.1.now + j ≡ length bs))

suffix_is : (c : ℕ) (bs : List ℕ) (i : ℕ) → i < length bs → get_or bs i 0 ≡ c → ((k : ℕ) → i < k → k < length bs → get_or bs k 0 ≢ c) → suffix_len (λ b. not (b == c)) bs ≡ length bs - (i + 1)
suffix_is c bs i within here after =
    suffix_len_is (λ b. not (b == c)) bs (i + 1) 0 (omega arith) (λ k above below. ap not (ne_eqb _ _ (after k (omega arith) below)))
    (λ some. ap (λ n. not (get_or bs n 0 == c)) (omega arith) ∙ ap not (eq-eqb _ _ here))

rsplit_some : (c : ℕ) (bs : List ℕ) (a b : Bor (List ℕ)) → c < 128 → IsRSplitOnceResult c bs (Some (a, b)) → (has c bs ≡ true) × (a.now ≡ before_last (λ x. x == c) bs) × (b.now ≡ after_last (λ x. x == c) bs)
rsplit_some c bs a b low h =
    let i = h.0 in
    let j = h.1 in
    let found = h.2 in
    let next : j ≡ i + 1 = found.1.ends ∙ ap (λ n. i + n) (len_utf8_ascii c low) in
    let within : i < length bs = omega (arith, h.7, next) in
    let here : get_or bs i 0 ≡ c = found.1.byte low in
    let e = suffix_is c bs i within here (λ k above below same.
    NoCharPasses-char c (drop j bs) (k - j) found.0 low (omega (arith, length-drop j bs, next)) (get_or-drop j bs (k - j) 0 ∙ ap (λ n. get_or bs n 0) (omega (arith, next)) ∙ same)) in (
      has_one c bs i within here,
      h.3 ∙ ap (λ n. take n bs) (omega (arith, e)),
      h.4 ∙ ap (λ n. drop n bs) (omega (arith, e, next)),
    )

rsplit_none : (c : ℕ) (bs : List ℕ) → c < 128 → IsRSplitOnceResult c bs None → has c bs ≡ false
rsplit_none c bs low h = has_none c bs (λ k within. NoCharPasses-char c bs k h low within)

pub last_some : (c : ℕ) (bs : List ℕ) (a b : Bor (List ℕ)) → c < 128 → IsRSplitOnceResult c bs (Some (a, b)) → cut_at_last c bs ≡ (a.now, Some b.now)
last_some c bs a b low h =
    let f = rsplit_some c bs a b low h in
    ap (λ t. if t then (before_last (λ x. x == c) bs, Some (after_last (λ x. x == c) bs)) else (bs, None)) f.0
    ∙ ap (λ x. (x, Some (after_last (λ x. x == c) bs))) (sym f.1) ∙ ap (λ x. (a.now, Some x)) (sym f.2)

pub last_none : (c : ℕ) (bs : List ℕ) → c < 128 → IsRSplitOnceResult c bs None → cut_at_last c bs ≡ (bs, None)
last_none c bs low h = ap (λ t. if t then (before_last (λ x. x == c) bs, Some (after_last (λ x. x == c) bs)) else (bs, None)) (rsplit_none c bs low h)

-- where the last c stands
last_index : (c : ℕ) (bs : List ℕ) → has c bs ≡ true → (i : ℕ) × (i < length bs) × (get_or bs i 0 ≡ c) × ((k : ℕ) → i < k → k < length bs → get_or bs k 0 ≢ c)
last_index c [] h = absurd cc
last_index c (x ∷ xs) h = go (has c xs) refl (λ e. last_index c xs e)
  where
    go : (b : Bool) → has c xs ≡ b → (has c xs ≡ true → (i : ℕ) × (i < length xs) × (get_or xs i 0 ≡ c) × ((k : ℕ) → i < k → k < length xs → get_or xs k 0 ≢ c)) → (i : ℕ) × (i < length (x ∷ xs)) × (get_or (x ∷ xs) i 0 ≡ c) × ((k : ℕ) → i < k → k < length (x ∷ xs) → get_or (x ∷ xs) k 0 ≢ c)
    go true e more =
        let f = more e in
        (suc f.0, omega (arith, f.1), f.2, later)
      where
        later : (k : ℕ) → suc (more e).0 < k → k < length (x ∷ xs) → get_or (x ∷ xs) k 0 ≢ c
        later zero above below = absurd (omega (arith, above))
        later (suc k) above below = (more e).3 k (omega (arith, above)) (omega (arith, below))
    go false e more =
        let first : (x == c) ≡ true = sym (ap (λ t. x == c || t) e ∙ or_none (x == c)) ∙ h in
        (zero, omega arith, eqb-true x c first, later)
      where
        or_none : (b : Bool) → (b || false) ≡ b
        or_none true = refl
        or_none false = refl

        later : (k : ℕ) → 0 < k → k < length (x ∷ xs) → get_or (x ∷ xs) k 0 ≢ c
        later zero above below = absurd (omega (arith, above))
        later (suc k) above below = λ same. both_ways (has c xs) e (has_one c xs k (omega (arith, below)) same)

-- the cut at an index behind which no c stands
at_index : (c : ℕ) (bs : List ℕ) (i : ℕ) → i < length bs → has c bs ≡ true → suffix_len (λ b. not (b == c)) bs ≡ length bs - (i + 1) → cut_at_last c bs ≡ (take i bs, Some (drop (i + 1) bs))
at_index c bs i within h e =
    ap (λ t. if t then (before_last (λ x. x == c) bs, Some (after_last (λ x. x == c) bs)) else (bs, None)) h ∙ both _ e
  where
    halves : ℕ → List ℕ × Option (List ℕ)
    halves n = (take (length bs - n - 1) bs, Some (drop (length bs - n) bs))

    front : length bs - (length bs - (i + 1)) - 1 ≡ i
    front = omega (arith, within)

    back : length bs - (length bs - (i + 1)) ≡ i + 1
    back = omega (arith, within)

    both : (n : ℕ) → n ≡ length bs - (i + 1) → halves n ≡ (take i bs, Some (drop (i + 1) bs))
    both n same = ap halves same ∙ ap (λ k. (take k bs, Some (drop (length bs - (length bs - (i + 1))) bs))) front ∙ ap (λ k. (take i bs, Some (drop k bs))) back

pub last_view : (c : ℕ) (bs : List ℕ) → has c bs ≡ true → (xs : List ℕ) × (ys : List ℕ) × (cut_at_last c bs ≡ (xs, Some ys)) × (bs ≡ xs ++ c ∷ ys)
last_view c bs h = view (last_index c bs h)
  where
    view : (i : ℕ) × (i < length bs) × (get_or bs i 0 ≡ c) × ((k : ℕ) → i < k → k < length bs → get_or bs k 0 ≢ c) → (xs : List ℕ) × (ys : List ℕ) × (cut_at_last c bs ≡ (xs, Some ys)) × (bs ≡ xs ++ c ∷ ys)
    view (i, within, here, after) = (
      take i bs,
      drop (i + 1) bs,
      at_index c bs i within h (suffix_is c bs i within here after),
      sym (take-append-drop i bs) ∙ ap (λ t. take i bs ++ t) (drop_more bs i 0 within ∙ ap (λ y. y ∷ drop (i + 1) bs) here),
    )

pub last_behind : (c : ℕ) (xs ys : List ℕ) → has c ys ≡ false → cut_at_last c (xs ++ c ∷ ys) ≡ (xs, Some ys)
last_behind c xs ys h =
    at_index c (xs ++ c ∷ ys) (length xs) within (has_one c (xs ++ c ∷ ys) (length xs) within here) (suffix_is c (xs ++ c ∷ ys) (length xs) within here after)
    ∙ ap (λ t. (t, Some (drop (length xs + 1) (xs ++ c ∷ ys)))) (take-append_seam xs (c ∷ ys)) ∙ ap (λ t. (xs, Some t)) (drop-append-add xs (c ∷ ys) 1)
  where
    long : length (xs ++ c ∷ ys) ≡ length xs + suc (length ys)
    long = length-append xs (c ∷ ys)

    within : length xs < length (xs ++ c ∷ ys)
    within = omega (arith, long)

    here : get_or (xs ++ c ∷ ys) (length xs) 0 ≡ c
    here = get_or-append_seam xs c ys 0

    after : (k : ℕ) → length xs < k → k < length (xs ++ c ∷ ys) → get_or (xs ++ c ∷ ys) k 0 ≢ c
    after k above below same =
        both_ways (has c ys) h (has_one c ys (k - (length xs + 1)) (omega (arith, long, above, below))
        (sym (get_or-append-add xs (c ∷ ys) (suc (k - (length xs + 1))) 0) ∙ ap (λ n. get_or (xs ++ c ∷ ys) n 0) (omega (arith, above)) ∙ same))
