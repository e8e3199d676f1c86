-- The nine forms of an IPv6 address, by the number of groups.
use Rattle.std.proofs.Common.{◌≡◌, ◌==◌, ◌∙◌, ◌||◌, ◌&&◌, ◌+◌, ◌≤◌, List, [], ◌∷◌, ℕ, zero, suc, not, Bool, true, false, nat_le, ap, sym, refl, arith, ne_eqb, length, Option, Some, None, option_map, if◌then◌else◌}
use Rattle.std.specs.List.{list_all, join_with_byte}
use Rattle.std.proofs.lemmas.Bool.{and_parts, both_ways, false_from_ne_true, and_right}
use Rattle.std.proofs.lemmas.Bool.Decides.{nat_tests}
use Rattle.std.proofs.lemmas.List.Splits.{join_with_byte-slice_split}
use Rattle.uri_grammar.specs.Texts.{pieces, is_empty, is_hex}
use Rattle.uri_grammar.specs.Addresses.{is_h16, is_ipv4_address, is_dec_octet, with_ls32, up_to, is_ipv6_cut}
use Rattle.uri_grammar.specs.Groups.{groups, groups_beside, is_count, counts}
use Rattle.uri_grammar.proofs.Groups.{pieces_filled, pieces_one}
use Rattle.uri_grammar.proofs.Bytes.{all_lacks}

-- ---- what is left of `::`

groups_plain : (ps : List (List ℕ)) → is_empty ps ≡ false → groups false ps ≡ (if list_all is_h16 ps then Some (length ps) else None)
groups_plain [] h = absurd cc
groups_plain (p ∷ []) h = one (is_h16 p)
  where
    one : (b : Bool) → (if b then Some (suc zero) else (if false && is_ipv4_address p then Some 2 else None)) ≡ (if b && true then Some (suc zero) else None)
    one true = refl
    one false = refl
groups_plain (p ∷ q ∷ rest) h =
    ap (λ o. if is_h16 p then option_map (λ n. 1 + n) o else None) (groups_plain (q ∷ rest) refl)
    ∙ step (is_h16 p) (is_h16 q && list_all is_h16 rest)
  where
    more : 1 + suc (length rest) ≡ suc (suc (length rest))
    more = omega arith

    step : (a b : Bool) → (if a then option_map (λ n. 1 + n) (if b then Some (suc (length rest)) else None) else None) ≡ (if a && b then Some (suc (suc (length rest))) else None)
    step true true = ap Some more
    step true false = refl
    step false b = refl

left_forms : (n : ℕ) (bs : List ℕ) → up_to n bs ≡ is_count (λ k. nat_le k (n + 1)) (groups_beside false bs)
left_forms n [] = grind (arith, nat_tests)
left_forms n (x ∷ xs) =
    let ps = pieces 58 (x ∷ xs) in
    elim (list_all is_h16 ps) as (λ b. (b && nat_le (length ps) (n + 1)) ≡ is_count (λ k. nat_le k (n + 1)) (if b then Some (length ps) else None)) [ true ↦ refl | false ↦ refl ]
    ∙ sym (ap (is_count (λ k. nat_le k (n + 1))) (groups_plain ps (pieces_filled 58 (x ∷ xs))))

left_empty : (bs : List ℕ) → is_empty bs ≡ is_count (λ k. nat_le k 0) (groups_beside false bs)
left_empty [] = refl
left_empty (x ∷ xs) = go (pieces 58 (x ∷ xs)) (pieces_filled 58 (x ∷ xs))
  where
    none : (b : Bool) (n : ℕ) → false ≡ is_count (λ k. nat_le k 0) (if b then Some (suc n) else None)
    none true n = grind (arith, nat_tests)
    none false n = refl

    go : (ps : List (List ℕ)) → is_empty ps ≡ false → false ≡ is_count (λ k. nat_le k 0) (groups false ps)
    go [] h = absurd cc
    go (p ∷ ps) h = none (list_all is_h16 (p ∷ ps)) (length ps) ∙ sym (ap (is_count (λ k. nat_le k 0)) (groups_plain (p ∷ ps) h))

-- ---- what is right of it

positive : (ends : Bool) (ps : List (List ℕ)) (n : ℕ) → groups ends ps ≡ Some n → 1 ≤ n
positive ends [] n h = absurd cc
positive ends (p ∷ []) n h = go (is_h16 p) (ends && is_ipv4_address p) h
  where
    go : (a b : Bool) → (if a then Some 1 else (if b then Some 2 else None)) ≡ Some n → 1 ≤ n
    go true b e = let m : 1 ≡ n = cc in omega (arith, m)
    go false true e = let m : 2 ≡ n = cc in omega (arith, m)
    go false false e = absurd cc
positive ends (p ∷ q ∷ rest) n h = go (is_h16 p) (groups ends (q ∷ rest)) h
  where
    go : (a : Bool) (o : Option ℕ) → (if a then option_map (λ m. 1 + m) o else None) ≡ Some n → 1 ≤ n
    go true (Some k) e = let m : 1 + k ≡ n = cc in omega (arith, m)
    go true None e = absurd cc
    go false o e = absurd cc

-- one to four digits are no IPv4 address
apart : (p : List ℕ) → is_h16 p ≡ true → is_ipv4_address p ≡ false
apart p h =
    let lacks = all_lacks is_hex 46 refl p (and_parts (not (is_empty p) && nat_le (length p) 4) (list_all is_hex p) h).1 in
    let one = pieces_one 46 p lacks in
    ap (λ ps. list_all is_dec_octet ps && length ps == 4) one ∙ and_right (list_all is_dec_octet (p ∷ [])) false refl

last_forms : (p : List ℕ) → is_ipv4_address p ≡ is_count (λ k. k == 2) (groups true (p ∷ []))
last_forms p = go (is_h16 p) (is_ipv4_address p) (apart p)
  where
    go : (a b : Bool) → (a ≡ true → b ≡ false) → b ≡ is_count (λ k. k == 2) (if a then Some 1 else (if true && b then Some 2 else None))
    go true b h = h refl
    go false true h = refl
    go false false h = refl

two_forms : (p q : List ℕ) → (is_h16 p && is_h16 q) ≡ is_count (λ k. k == 2) (groups true (p ∷ q ∷ []))
two_forms p q = go (is_h16 p) (is_h16 q) (is_ipv4_address q)
  where
    go : (a b c : Bool) → (a && b) ≡ is_count (λ k. k == 2) (if a then option_map (λ n. 1 + n) (if b then Some 1 else (if true && c then Some 2 else None)) else None)
    go true true c = refl
    go true false true = refl
    go true false false = refl
    go false b c = refl

many_forms : (p q r : List ℕ) (rest : List (List ℕ)) → false ≡ is_count (λ k. k == 2) (groups true (p ∷ q ∷ r ∷ rest))
many_forms p q r rest = go (is_h16 p) (is_h16 q) (groups true (r ∷ rest)) (positive true (r ∷ rest))
  where
    go : (a b : Bool) (o : Option ℕ) → ((n : ℕ) → o ≡ Some n → 1 ≤ n) → false ≡ is_count (λ k. k == 2) (if a then option_map (λ n. 1 + n) (if b then option_map (λ n. 1 + n) o else None) else None)
    go true true (Some n) h = let m = h n refl in sym (ne_eqb (1 + (1 + n)) 2 (λ e. omega (arith, m, e)))
    go true true None h = refl
    go true false o h = refl
    go false b o h = refl

right_forms : (n : ℕ) (ps : List (List ℕ)) → with_ls32 n ps ≡ is_count (λ k. k == n + 2) (groups true ps)
right_forms zero [] = refl
right_forms zero (p ∷ []) = last_forms p
right_forms zero (p ∷ q ∷ []) = two_forms p q
right_forms zero (p ∷ q ∷ r ∷ rest) = many_forms p q r rest
right_forms (suc n) [] = refl
right_forms (suc n) (p ∷ []) = ap (λ b. is_h16 p && b) (right_forms n []) ∙ and_right (is_h16 p) false refl ∙ go (is_h16 p) (is_ipv4_address p)
  where
    go : (a b : Bool) → false ≡ is_count (λ k. k == suc n + 2) (if a then Some 1 else (if true && b then Some 2 else None))
    go true b = sym (ne_eqb 1 (suc n + 2) (λ e. omega (arith, e)))
    go false true = sym (ne_eqb 2 (suc n + 2) (λ e. omega (arith, e)))
    go false false = refl
right_forms (suc n) (p ∷ q ∷ rest) = ap (λ b. is_h16 p && b) (right_forms n (q ∷ rest)) ∙ go (is_h16 p) (groups true (q ∷ rest))
  where
    same : (k : ℕ) → (k == n + 2) ≡ (1 + k == suc n + 2)
    same k = grind (arith, nat_tests)

    go : (a : Bool) (o : Option ℕ) → (a && is_count (λ k. k == n + 2) o) ≡ is_count (λ k. k == suc n + 2) (if a then option_map (λ m. 1 + m) o else None)
    go true (Some k) = same k
    go true None = refl
    go false o = refl

right_beside : (n : ℕ) (bs : List ℕ) → with_ls32 n (pieces 58 bs) ≡ is_count (λ k. k == n + 2) (groups_beside true bs)
right_beside zero [] = refl
right_beside (suc n) [] = sym (ne_eqb 0 (suc n + 2) (λ e. omega (arith, e)))
right_beside n (x ∷ xs) = right_forms n (pieces 58 (x ∷ xs))

one_form : (bs : List ℕ) → is_h16 bs ≡ is_count (λ k. k == 1) (groups_beside true bs)
one_form [] = refl
one_form (x ∷ xs) = go (pieces 58 (x ∷ xs)) refl
  where
    single : (a b : Bool) → a ≡ is_count (λ k. k == 1) (if a then Some 1 else (if true && b then Some 2 else None))
    single true b = refl
    single false true = refl
    single false false = refl

    more : (a : Bool) (o : Option ℕ) → ((n : ℕ) → o ≡ Some n → 1 ≤ n) → false ≡ is_count (λ k. k == 1) (if a then option_map (λ n. 1 + n) o else None)
    more true (Some n) h = let m = h n refl in sym (ne_eqb (1 + n) 1 (λ e. omega (arith, m, e)))
    more true None h = refl
    more false o h = refl

    go : (ps : List (List ℕ)) → pieces 58 (x ∷ xs) ≡ ps → is_h16 (x ∷ xs) ≡ is_count (λ k. k == 1) (groups true ps)
    go [] e = absurd (both_ways (is_empty (pieces 58 (x ∷ xs))) (pieces_filled 58 (x ∷ xs)) (ap is_empty e))
    go (p ∷ []) e =
        let same : x ∷ xs ≡ p = sym (join_with_byte-slice_split 58 (x ∷ xs)) ∙ ap (join_with_byte 58) e in
        ap is_h16 same ∙ single (is_h16 p) (is_ipv4_address p)
    go (p ∷ q ∷ rest) e =
        let none : is_h16 (x ∷ xs) ≡ false = false_from_ne_true (is_h16 (x ∷ xs)) (λ h.
        let lacks = all_lacks is_hex 58 refl (x ∷ xs) (and_parts (not (is_empty (x ∷ xs)) && nat_le (length (x ∷ xs)) 4) (list_all is_hex (x ∷ xs)) h).1 in
        let n = ap length (sym e ∙ pieces_one 58 (x ∷ xs) lacks) in
        absurd (omega (arith, n))) in
        none ∙ more (is_h16 p) (groups true (q ∷ rest)) (positive true (q ∷ rest))

none_form : (bs : List ℕ) → is_empty bs ≡ is_count (λ k. k == 0) (groups_beside true bs)
none_form [] = refl
none_form (x ∷ xs) = go (groups true (pieces 58 (x ∷ xs))) (positive true (pieces 58 (x ∷ xs)))
  where
    go : (o : Option ℕ) → ((n : ℕ) → o ≡ Some n → 1 ≤ n) → false ≡ is_count (λ k. k == 0) o
    go None h = refl
    go (Some n) h = let m = h n refl in sym (ne_eqb n 0 (λ e. omega (arith, m, e)))

-- ---- both

row : {a b c d : Bool} → a ≡ c → b ≡ d → (a && b) ≡ (c && d)
row {a} {b} {c} {d} h k = ap (λ t. t && b) h ∙ ap (λ t. c && t) k

also : {a b c d : Bool} → a ≡ c → b ≡ d → (a || b) ≡ (c || d)
also {a} {b} {c} {d} h k = ap (λ t. t || b) h ∙ ap (λ t. c || t) k

total_of : (n m : ℕ) →
    ((nat_le n 0 && m == 7) || (nat_le n 1 && m == 6) || (nat_le n 2 && m == 5) || (nat_le n 3 && m == 4)
    || (nat_le n 4 && m == 3) || (nat_le n 5 && m == 2) || (nat_le n 6 && m == 1) || (nat_le n 7 && m == 0)) ≡ nat_le (n + m) 7
total_of n m = grind (arith, nat_tests)

abbrev rows : Option ℕ → Option ℕ → Bool
rows l r =
    (is_count (λ k. nat_le k 0) l && is_count (λ k. k == 7) r) || (is_count (λ k. nat_le k 1) l && is_count (λ k. k == 6) r)
    || (is_count (λ k. nat_le k 2) l && is_count (λ k. k == 5) r) || (is_count (λ k. nat_le k 3) l && is_count (λ k. k == 4) r)
    || (is_count (λ k. nat_le k 4) l && is_count (λ k. k == 3) r) || (is_count (λ k. nat_le k 5) l && is_count (λ k. k == 2) r)
    || (is_count (λ k. nat_le k 6) l && is_count (λ k. k == 1) r) || (is_count (λ k. nat_le k 7) l && is_count (λ k. k == 0) r)

total : (l r : Option ℕ) → rows l r ≡ is_count (λ n. is_count (λ m. nat_le (n + m) 7) r) l
total None r = refl
total (Some n) None = grind (arith, nat_tests)
total (Some n) (Some m) = total_of n m

pub forms : (p : List ℕ × Option (List ℕ)) → is_ipv6_cut p ≡ counts p
forms (all, None) = right_forms 6 (pieces 58 all)
forms (left, Some right) =
    also (also (also (also (also (also (also
    (row (left_empty left) (right_beside 5 right))
    (row (left_forms 0 left) (right_beside 4 right)))
    (row (left_forms 1 left) (right_beside 3 right)))
    (row (left_forms 2 left) (right_beside 2 right)))
    (row (left_forms 3 left) (right_beside 1 right)))
    (row (left_forms 4 left) (right_beside 0 right)))
    (row (left_forms 5 left) (one_form right)))
    (row (left_forms 6 left) (none_form right))
    ∙ total (groups_beside false left) (groups_beside true right)
