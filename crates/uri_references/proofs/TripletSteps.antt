-- How `with_triplets` goes through a text.
use Rattle.std.proofs.Common.{◌≡◌, ◌==◌, ◌∙◌, ◌&&◌, ◌||◌, ◌++◌, List, [], ◌∷◌, ℕ, Bool, true, false, ap, refl, sym, append-nil, append_assoc, Some, None, if◌then◌else◌}
use Rattle.std.specs.Prelude.{unwrap_or}
use Rattle.uri_grammar.specs.Texts.{has, is_hex}
use Rattle.uri_references.specs.NormalForm.{with_triplets, triplet, is_triplet, two_digits}

pub triplet-first : (x y z : ℕ) (rest : List ℕ) → is_triplet x y z ≡ true → with_triplets (x ∷ y ∷ z ∷ rest) ≡ triplet y z ++ with_triplets rest
triplet-first x y z rest e = rw (e, with_triplets) refl

pub plain-first : (x y z : ℕ) (rest : List ℕ) → is_triplet x y z ≡ false → with_triplets (x ∷ y ∷ z ∷ rest) ≡ x ∷ with_triplets (y ∷ z ∷ rest)
plain-first x y z rest e = rw (e, with_triplets) refl

-- a byte that is no percent sign stands for itself
pub byte-first : (x : ℕ) (text : List ℕ) → (x == 37) ≡ false → with_triplets (x ∷ text) ≡ x ∷ with_triplets text
byte-first x [] e = refl
byte-first x (y ∷ []) e = refl
byte-first x (y ∷ z ∷ rest) e = plain-first x y z rest (ap (λ b. b && (is_hex y && is_hex z)) e)

or_false : (a b : Bool) → (a || b) ≡ false → (a ≡ false) × (b ≡ false)
or_false true b e = cc
or_false false b e = (refl, e)

-- so does a text without one
pub bytes-first : (before text : List ℕ) → has 37 before ≡ false → with_triplets (before ++ text) ≡ before ++ with_triplets text
bytes-first [] text e = refl
bytes-first (x ∷ xs) text e =
    let f = or_false (x == 37) (has 37 xs) e in
    byte-first x (xs ++ text) f.0 ∙ ap (λ t. x ∷ t) (bytes-first xs text f.1)

pub bytes-alone : (text : List ℕ) → has 37 text ≡ false → with_triplets text ≡ text
bytes-alone text e = ap with_triplets (sym (append-nil text)) ∙ bytes-first text [] e ∙ append-nil text

some_none : (x : ℕ × ℕ × List ℕ) → Some x ≡ None → ⊥
some_none x e = cc

-- behind a percent sign
pub digits-step : (after : List ℕ) (y z : ℕ) (rest : List ℕ) → Some (y, z, rest) ≡ two_digits after → with_triplets (37 ∷ after) ≡ triplet y z ++ with_triplets rest
digits-step [] y z rest e = absurd (some_none (y, z, rest) e)
digits-step (a ∷ []) y z rest e = absurd (some_none (y, z, rest) e)
digits-step (a ∷ b ∷ more) y z rest e = by_test (is_hex a && is_hex b) refl
  where
    by_test : (t : Bool) → t ≡ (is_hex a && is_hex b) → with_triplets (37 ∷ a ∷ b ∷ more) ≡ triplet y z ++ with_triplets rest
    by_test true f =
        let same : Some (y, z, rest) ≡ Some (a, b, more) = e ∙ ap (λ t. if t then Some (a, b, more) else None) (sym f) in
        let first : y ≡ a = ap (λ o. (unwrap_or {T = ℕ × ℕ × List ℕ} o (y, z, rest)).0) same in
        let second : z ≡ b = ap (λ o. (unwrap_or {T = ℕ × ℕ × List ℕ} o (y, z, rest)).1) same in
        let third : rest ≡ more = ap (λ o. (unwrap_or {T = ℕ × ℕ × List ℕ} o (y, z, rest)).2) same in
        triplet-first 37 a b more (sym f) ∙ sym (ap (λ t. triplet t z ++ with_triplets rest) first ∙ ap (λ t. triplet a t ++ with_triplets rest) second ∙ ap (λ t. triplet a b ++ with_triplets t) third)
    by_test false f =
        let none : Some (y, z, rest) ≡ None = e ∙ ap (λ t. if t then Some (a, b, more) else None) (sym f) in
        absurd (some_none (y, z, rest) none)

pub lone-step : (after : List ℕ) → None ≡ two_digits after → with_triplets (37 ∷ after) ≡ 37 ∷ with_triplets after
lone-step [] e = refl
lone-step (a ∷ []) e = refl
lone-step (a ∷ b ∷ more) e = by_test (is_hex a && is_hex b) refl
  where
    by_test : (t : Bool) → t ≡ (is_hex a && is_hex b) → with_triplets (37 ∷ a ∷ b ∷ more) ≡ 37 ∷ with_triplets (a ∷ b ∷ more)
    by_test true f =
        let none : None ≡ Some (a, b, more) = e ∙ ap (λ t. if t then Some (a, b, more) else None) (sym f) in
        absurd (some_none (a, b, more) (sym none))
    by_test false f = plain-first 37 a b more (sym f)

-- one more run of bytes and what comes after it
pub advance : (out one two before after rest t s : List ℕ) → one ≡ out ++ before → two ≡ one ++ t → with_triplets (37 ∷ after) ≡ t ++ s
    → has 37 before ≡ false → rest ≡ before ++ 37 ∷ after → two ++ s ≡ out ++ with_triplets rest
advance out one two before after rest t s p q r none e =
    ap (λ x. x ++ s) (q ∙ ap (λ x. x ++ t) p) ∙ append_assoc (out ++ before) t s ∙ append_assoc out before (t ++ s)
    ∙ ap (λ x. out ++ (before ++ x)) (sym r) ∙ ap (λ x. out ++ x) (sym (bytes-first before (37 ∷ after) none)) ∙ ap (λ x. out ++ with_triplets x) (sym e)
