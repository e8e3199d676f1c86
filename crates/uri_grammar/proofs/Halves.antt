-- A text is the two halves of its cut, with the byte between them.
use Rattle.std.proofs.Common.{◌≡◌, ◌==◌, ◌∙◌, ◌||◌, List, [], ◌∷◌, ◌++◌, ℕ, suc, not, Bool, true, false, ap, sym, refl, Option, Some, None, if◌then◌else◌, length, take, drop, ◌+◌, ◌≢◌, arith, eq-eqb, ne_eqb}
use Rattle.std.specs.List.{position_or_len}
use Rattle.std.proofs.lemmas.Bool.{eqb-true, eqb-false, or_parts}
use Rattle.std.proofs.lemmas.List.{append-nil}
use Rattle.uri_grammar.specs.Texts.{cut_at, has, behind}

at_end : (c : ℕ) (bs : List ℕ) → position_or_len (λ b. b == c) bs ≡ length bs → cut_at c bs ≡ (bs, None)
at_end c bs e = ap (λ t. if t then (bs, None) else (take (position_or_len (λ b. b == c) bs) bs, Some (drop (position_or_len (λ b. b == c) bs + 1) bs))) (eq-eqb _ _ e)

inside : (c : ℕ) (bs : List ℕ) (i : ℕ) → position_or_len (λ b. b == c) bs ≡ i → i ≢ length bs → cut_at c bs ≡ (take i bs, Some (drop (i + 1) bs))
inside c bs i e other =
    ap (λ n. if n == length bs then (bs, None) else (take n bs, Some (drop (n + 1) bs))) e
    ∙ ap (λ t. if t then (bs, None) else (take i bs, Some (drop (i + 1) bs))) (ne_eqb i (length bs) other)

-- a cut, byte by byte
pub cut_here : (c x : ℕ) (xs : List ℕ) → (x == c) ≡ true → cut_at c (x ∷ xs) ≡ ([], Some xs)
cut_here c x xs e = inside c (x ∷ xs) 0 (ap (λ t. if not t then 1 + position_or_len (λ b. b == c) xs else 0) e) (λ h. absurd (omega (arith, h)))

pub cut_on : (c x : ℕ) (xs : List ℕ) → (x == c) ≡ false → cut_at c (x ∷ xs) ≡ (x ∷ (cut_at c xs).0, (cut_at c xs).1)
cut_on c x xs e = go (position_or_len (λ b. b == c) xs == length xs) refl
  where
    next : position_or_len (λ b. b == c) (x ∷ xs) ≡ 1 + position_or_len (λ b. b == c) xs
    next = ap (λ t. if not t then 1 + position_or_len (λ b. b == c) xs else 0) e

    go : (b : Bool) → (position_or_len (λ b. b == c) xs == length xs) ≡ b → cut_at c (x ∷ xs) ≡ (x ∷ (cut_at c xs).0, (cut_at c xs).1)
    go true h =
        let same = eqb-true (position_or_len (λ b. b == c) xs) (length xs) h in
        let all : 1 + position_or_len (λ b. b == c) xs ≡ suc (length xs) = omega (arith, same) in
        at_end c (x ∷ xs) (next ∙ all) ∙ sym (ap (λ p. (x ∷ p.0, p.1)) (at_end c xs same))
    go false h =
        let i = position_or_len (λ b. b == c) xs in
        let other = eqb-false i (length xs) h in
        let more : suc i + 1 ≡ suc (i + 1) = omega arith in
        let start : 1 + i ≡ suc i = omega arith in
        inside c (x ∷ xs) (suc i) (next ∙ start) (λ k. other (omega (arith, k)))
        ∙ ap (λ n. (x ∷ take i xs, Some (drop n (x ∷ xs)))) more
        ∙ sym (ap (λ p. (x ∷ p.0, p.1)) (inside c xs i refl other))

pub cut_whole : (c : ℕ) (bs : List ℕ) → (cut_at c bs).0 ++ behind (c ∷ []) (cut_at c bs).1 ≡ bs
cut_whole c [] = refl
cut_whole c (x ∷ xs) = go (x == c) refl (cut_whole c xs)
  where
    go : (b : Bool) → (x == c) ≡ b → (cut_at c xs).0 ++ behind (c ∷ []) (cut_at c xs).1 ≡ xs → (cut_at c (x ∷ xs)).0 ++ behind (c ∷ []) (cut_at c (x ∷ xs)).1 ≡ x ∷ xs
    go true e h = ap (λ p. p.0 ++ behind (c ∷ []) p.1) (cut_here c x xs e) ∙ ap (λ y. y ∷ xs) (sym (eqb-true x c e))
    go false e h = ap (λ p. p.0 ++ behind (c ∷ []) p.1) (cut_on c x xs e) ∙ ap (λ t. x ∷ t) h

pub cut_lacks : (c : ℕ) (bs : List ℕ) → has c (cut_at c bs).0 ≡ false
cut_lacks c [] = refl
cut_lacks c (x ∷ xs) = go (x == c) refl (cut_lacks c xs)
  where
    go : (b : Bool) → (x == c) ≡ b → has c (cut_at c xs).0 ≡ false → has c (cut_at c (x ∷ xs)).0 ≡ false
    go true e h = ap (λ p. has c p.0) (cut_here c x xs e)
    go false e h = ap (λ p. has c p.0) (cut_on c x xs e) ∙ ap (λ t. t || has c (cut_at c xs).0) e ∙ h

pub cut_behind : (c : ℕ) (xs : List ℕ) (o : Option (List ℕ)) → has c xs ≡ false → cut_at c (xs ++ behind (c ∷ []) o) ≡ (xs, o)
cut_behind c [] None h = refl
cut_behind c [] (Some ys) h = cut_here c c ys (eq-eqb c c refl)
cut_behind c (x ∷ xs) o h =
    let parts = or_parts (x == c) (has c xs) h in
    cut_on c x (xs ++ behind (c ∷ []) o) parts.0 ∙ ap (λ p. (x ∷ p.0, p.1)) (cut_behind c xs o parts.1)

pub cut_none : (c : ℕ) (xs : List ℕ) → has c xs ≡ false → cut_at c xs ≡ (xs, None)
cut_none c xs h = ap (cut_at c) (sym (append-nil xs)) ∙ cut_behind c xs None h
