use Rattle.std.proofs.Common.{◌≡◌, ◌≢◌, ◌==◌, ◌<◌, ◌+◌, ◌-◌, ◌∙◌, List, [], ℕ, not, length, get_or, take, arith, ap, ne_eqb}
use Rattle.std.proofs.lemmas.List.Sums.{suffix_len_is}
use Rattle.std.specs.List.{suffix_len}
use Rattle.uri_references.specs.Dots.{up}

pub up_at : (bs : List ℕ) (i : ℕ) → i < length bs → get_or bs i 0 ≡ 47 → ((k : ℕ) → i < k → k < length bs → get_or bs k 0 ≢ 47) → up bs ≡ take i bs
up_at bs i within here after =
    let e : suffix_len (λ b. not (b == 47)) bs ≡ length bs - (i + 1) =
    suffix_len_is (λ b. not (b == 47)) bs (i + 1) 0 (omega arith) (λ k above below. ap not (ne_eqb _ _ (after k (omega arith) below))) (λ some. ap (λ n. not (get_or bs n 0 == 47)) (omega arith) ∙ ap (λ b. not (b == 47)) here) in
    let same : length bs - suffix_len (λ b. not (b == 47)) bs - 1 ≡ i = omega (arith, e) in
    ap (λ n. take n bs) same

pub up_none : (bs : List ℕ) → ((k : ℕ) → k < length bs → get_or bs k 0 ≢ 47) → up bs ≡ []
up_none bs none =
    let e : suffix_len (λ b. not (b == 47)) bs ≡ length bs - 0 =
    suffix_len_is (λ b. not (b == 47)) bs 0 0 (omega arith) (λ k above below. ap not (ne_eqb _ _ (none k below))) (λ some. absurd (omega arith)) in
    let same : length bs - suffix_len (λ b. not (b == 47)) bs - 1 ≡ 0 = omega (arith, e) in
    ap (λ n. take n bs) same
