use Rattle.std.proofs.Common.{◌≡◌, ◌≢◌, ◌==◌, ◌<◌, ◌+◌, ◌∙◌, ◌||◌, ◌&&◌, List, [], ◌∷◌, ℕ, zero, suc, Bool, true, false, length, get_or, take, drop, arith, ap, refl, sym, ne_eqb, eq-eqb, Option, Some, None, if◌then◌else◌, Bor, MatchOption, option_map}
use Rattle.std.proofs.lemmas.List.Sums.{position_or_len_is}
use Rattle.std.proofs.lemmas.Str.Pattern.{IsSplitOnceResult, split_once_first}
use Rattle.std.specs.List.{position_or_len}
use Rattle.uri_grammar.specs.Texts.{cut_at, has, is_empty}
use Rattle.uri_grammar.specs.Parts.{scheme_of, after_slashes}

pub by_position : (c : ℕ) (bs : List ℕ) (i : ℕ) → position_or_len (λ b. b == c) bs ≡ i → i < length bs → cut_at c bs ≡ (take i bs, Some (drop (i + 1) bs))
by_position c bs i e within =
    ap (λ n. if n == length bs then (bs, None) else (take n bs, Some (drop (n + 1) bs))) e
    ∙ ap (λ t. if t then (bs, None) else (take i bs, Some (drop (i + 1) bs))) (ne_eqb i (length bs) (omega arith))

pub cut_found : (c : ℕ) (bs : List ℕ) (i : ℕ) → i < length bs → get_or bs i 0 ≡ c → ((k : ℕ) → k < i → get_or bs k 0 ≢ c) → cut_at c bs ≡ (take i bs, Some (drop (i + 1) bs))
cut_found c bs i within here before =
    by_position c bs i (position_or_len_is (λ b. b == c) bs i 0 (omega arith) (λ k h. ne_eqb _ _ (before k h)) (λ h. eq-eqb _ _ here)) within

pub cut_missing : (c : ℕ) (bs : List ℕ) → ((k : ℕ) → k < length bs → get_or bs k 0 ≢ c) → cut_at c bs ≡ (bs, None)
cut_missing c bs none =
    let e : position_or_len (λ b. b == c) bs ≡ length bs = position_or_len_is (λ b. b == c) bs (length bs) 0 (omega arith) (λ k h. ne_eqb _ _ (none k h)) (λ h. absurd (omega arith)) in
    ap (λ t. if t then (bs, None) else (take (position_or_len (λ b. b == c) bs) bs, Some (drop (position_or_len (λ b. b == c) bs + 1) bs))) (eq-eqb _ _ e)

pub cut_split : (c : ℕ) (bs : List ℕ) (a b : Bor (List ℕ)) → c < 128 → IsSplitOnceResult c bs (Some (a, b)) → cut_at c bs ≡ (a.now, Some b.now)
cut_split c bs a b small h =
    let f = split_once_first c bs (Some (a, b)) h small in
    by_position c bs (position_or_len (λ d. d == c) bs) refl f.0 ∙ ap (λ x. (x, Some (drop (position_or_len (λ d. d == c) bs + 1) bs))) (sym f.1) ∙ ap (λ x. (a.now, Some x)) (sym f.2)

pub has_none : (c : ℕ) (bs : List ℕ) → ((k : ℕ) → k < length bs → get_or bs k 0 ≢ c) → has c bs ≡ false
has_none c [] h = refl
has_none c (x ∷ xs) h = ap (λ t. t || has c xs) (ne_eqb x c (h 0 (omega arith))) ∙ has_none c xs (λ k below. h (suc k) (omega arith))

pub filled : (bs : List ℕ) → false ≡ (length bs == 0) → is_empty bs ≡ false
filled [] h = sym h
filled (x ∷ xs) h = refl

pub scheme_named : (a b text : List ℕ) → is_empty a ≡ false → has 47 a ≡ false → scheme_of (a, Some b) text ≡ (Some a, b)
scheme_named a b text e h =
    ap (λ t. if t || has 47 a then (None, text) else (Some a, b)) e ∙ ap (λ t. if t then (None, text) else (Some a, b)) h

-- a slash at the front, or not
pub slashes_none : (bs : List ℕ) → ((rest : List ℕ) → bs ≢ 47 ∷ rest) → after_slashes bs ≡ None
slashes_none [] h = refl
slashes_none (x ∷ []) h = refl
slashes_none (x ∷ y ∷ rest) h = ap (λ t. if t && y == 47 then Some rest else None) (ne_eqb x 47 (λ e. h (y ∷ rest) (ap (λ z. z ∷ y ∷ rest) e)))

pub slashes_one : (bs : List ℕ) → ((rest : List ℕ) → bs ≢ 47 ∷ rest) → after_slashes (47 ∷ bs) ≡ None
slashes_one [] h = refl
slashes_one (y ∷ rest) h = ap (λ t. if t then Some rest else None) (ne_eqb y 47 (λ e. h rest (ap (λ z. z ∷ rest) e)))

pub slashes_two : (bs : List ℕ) (r : Option (Bor (List ℕ))) → MatchOption r ((rest : List ℕ) → bs ≢ 47 ∷ rest) (λ x. bs ≡ 47 ∷ x.now) → option_map (λ t. t.now) r ≡ after_slashes (47 ∷ bs)
slashes_two bs None h = sym (slashes_one bs h)
slashes_two bs (Some x) h = sym (ap (λ l. after_slashes (47 ∷ l)) h)

pub has_one : (c : ℕ) (bs : List ℕ) (k : ℕ) → k < length bs → get_or bs k 0 ≡ c → has c bs ≡ true
has_one c [] k h e = absurd (omega (arith, h))
has_one c (x ∷ xs) zero h e = ap (λ t. t || has c xs) (eq-eqb x c e)
has_one c (x ∷ xs) (suc k) h e = ap (λ t. x == c || t) (has_one c xs k (omega (arith, h)) e) ∙ or_true (x == c)
  where
    or_true : (b : Bool) → (b || true) ≡ true
    or_true true = refl
    or_true false = refl

pub has_decided : (c : ℕ) (bs : List ℕ) (r : Bool) → (r ≡ true → (k : ℕ) × (k < length bs) × (get_or bs k 0 ≡ c)) → ((k : ℕ) → k < length bs → get_or bs k 0 ≡ c → r ≡ true) → r ≡ has c bs
has_decided c bs true some none = let f = some refl in sym (has_one c bs f.0 f.1 f.2)
has_decided c bs false some none = sym (has_none c bs (λ k h e. let t = none k h e in cc))
