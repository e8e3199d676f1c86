-- The grammar of addresses does not tell upper from lower case.
use Rattle.std.proofs.Common.{◌≡◌, ◌==◌, ◌∙◌, ◌&&◌, ◌||◌, ◌+◌, List, [], ◌∷◌, ℕ, zero, suc, Bool, true, false, not, nat_le, ap, refl, sym, subst, Option, Some, None, option_map, map, length, if◌then◌else◌, arith}
use Rattle.std.proofs.lemmas.Grind.{common_steps}
use Rattle.std.specs.Char.{to_ascii_lowercase}
use Rattle.std.specs.List.{list_all, onto_first}
use Rattle.uri_grammar.specs.Texts.{cut_at, pieces, is_empty, is_digit, is_hex, is_between}
use Rattle.uri_grammar.specs.Addresses.{is_dec_octet, is_ipv4_address, is_ipv6_address, is_unreserved, is_sub_delim, is_ip_future, is_closed, is_ip_literal}
use Rattle.uri_grammar.specs.Grammar.{is_encoded, is_reg_name}
use Rattle.uri_grammar.specs.Addresses.{is_h16, is_ls32, with_ls32, up_to, with_first, cut_at_colons, is_ipv6_cut, is_future_byte, is_version, is_future_cut}
use Rattle.uri_grammar.proofs.Halves.{cut_here, cut_on}
use Rattle.uri_grammar.proofs.Groups.{pieces_filled}
use Rattle.uri_references.proofs.DotLemmas.{from_test}
use Rattle.uri_references.specs.NormalForm.{lowered}
use Rattle.uri_references.proofs.Bools.{true_false, and_left, and_right, and_both, or_left}
use Rattle.uri_references.proofs.Characters.{lower-hex}

lower-colon : (b : ℕ) → (to_ascii_lowercase b == 58) ≡ (b == 58)
lower-colon b = grind (arith, common_steps)

lower-dot : (b : ℕ) → (to_ascii_lowercase b == 46) ≡ (b == 46)
lower-dot b = grind (arith, common_steps)

lower-closing : (b : ℕ) → (to_ascii_lowercase b == 93) ≡ (b == 93)
lower-closing b = grind (arith, common_steps)

lower-opening : (b : ℕ) → (to_ascii_lowercase b == 91) ≡ (b == 91)
lower-opening b = grind (arith, common_steps)

lower-version : (b : ℕ) → (to_ascii_lowercase b == 118 || to_ascii_lowercase b == 86) ≡ (b == 118 || b == 86)
lower-version b = grind (arith, common_steps)

lower-digit : (b : ℕ) → is_digit (to_ascii_lowercase b) ≡ is_digit b
lower-digit b = grind (arith, common_steps)

lower-one : (b : ℕ) → (to_ascii_lowercase b == 49) ≡ (b == 49)
lower-one b = grind (arith, common_steps)

lower-two : (b : ℕ) → (to_ascii_lowercase b == 50) ≡ (b == 50)
lower-two b = grind (arith, common_steps)

lower-five : (b : ℕ) → (to_ascii_lowercase b == 53) ≡ (b == 53)
lower-five b = grind (arith, common_steps)

lower-few : (b : ℕ) → is_between 48 52 (to_ascii_lowercase b) ≡ is_between 48 52 b
lower-few b = grind (arith, common_steps)

lower-some : (b : ℕ) → is_between 48 53 (to_ascii_lowercase b) ≡ is_between 48 53 b
lower-some b = grind (arith, common_steps)

lower-most : (b : ℕ) → is_between 49 57 (to_ascii_lowercase b) ≡ is_between 49 57 b
lower-most b = grind (arith, common_steps)

lower-unreserved : (b : ℕ) → is_unreserved (to_ascii_lowercase b) ≡ is_unreserved b
lower-unreserved b = grind (arith, common_steps)

lower-delim : (b : ℕ) → is_sub_delim (to_ascii_lowercase b) ≡ is_sub_delim b
lower-delim b = grind (arith, common_steps)

lower-future : (b : ℕ) → is_future_byte (to_ascii_lowercase b) ≡ is_future_byte b
lower-future b = rw (lower-unreserved b, lower-delim b, lower-colon b) refl

-- ---- cutting

lower-cut : (c : ℕ) → ((b : ℕ) → (to_ascii_lowercase b == c) ≡ (b == c)) → (t : List ℕ) → cut_at c (lowered t) ≡ (lowered (cut_at c t).0, option_map lowered (cut_at c t).1)
lower-cut c same [] = refl
lower-cut c same (x ∷ xs) = by_test (x == c) refl (lower-cut c same xs)
  where
    onto : List ℕ × Option (List ℕ) → List ℕ × Option (List ℕ)
    onto p = (to_ascii_lowercase x ∷ p.0, p.1)

    low : List ℕ × Option (List ℕ) → List ℕ × Option (List ℕ)
    low p = (lowered p.0, option_map lowered p.1)

    by_test : (b : Bool) → b ≡ (x == c) → cut_at c (lowered xs) ≡ (lowered (cut_at c xs).0, option_map lowered (cut_at c xs).1)
        → cut_at c (lowered (x ∷ xs)) ≡ (lowered (cut_at c (x ∷ xs)).0, option_map lowered (cut_at c (x ∷ xs)).1)
    by_test true e more = cut_here c (to_ascii_lowercase x) (lowered xs) (same x ∙ sym e) ∙ sym (ap low (cut_here c x xs (sym e)))
    by_test false e more = cut_on c (to_ascii_lowercase x) (lowered xs) (same x ∙ sym e) ∙ ap onto more ∙ sym (ap low (cut_on c x xs (sym e)))

lower-onto : (x : ℕ) (ps : List (List ℕ)) → map lowered (onto_first x ps) ≡ onto_first (to_ascii_lowercase x) (map lowered ps)
lower-onto x [] = refl
lower-onto x (p ∷ ps) = refl

lower-pieces : (c : ℕ) → ((b : ℕ) → (to_ascii_lowercase b == c) ≡ (b == c)) → (t : List ℕ) → pieces c (lowered t) ≡ map lowered (pieces c t)
lower-pieces c same [] = refl
lower-pieces c same (x ∷ xs) =
    ap (λ b. if b then [] ∷ pieces c (lowered xs) else onto_first (to_ascii_lowercase x) (pieces c (lowered xs))) (same x) ∙ by_test (x == c) (lower-pieces c same xs)
  where
    by_test : (b : Bool) → pieces c (lowered xs) ≡ map lowered (pieces c xs)
        → (if b then [] ∷ pieces c (lowered xs) else onto_first (to_ascii_lowercase x) (pieces c (lowered xs))) ≡ map lowered (if b then [] ∷ pieces c xs else onto_first x (pieces c xs))
    by_test true more = ap (λ t. [] ∷ t) more
    by_test false more = ap (onto_first (to_ascii_lowercase x)) more ∙ sym (lower-onto x (pieces c xs))

-- ---- tests of every byte

lower-all : (test : ℕ → Bool) → ((b : ℕ) → test (to_ascii_lowercase b) ≡ test b) → (t : List ℕ) → list_all test (lowered t) ≡ list_all test t
lower-all test same [] = refl
lower-all test same (b ∷ t) = ap (λ x. x && list_all test (lowered t)) (same b) ∙ ap (λ x. test b && x) (lower-all test same t)

lower-empty : (t : List ℕ) → is_empty (lowered t) ≡ is_empty t
lower-empty [] = refl
lower-empty (b ∷ t) = refl

lower-length : (t : List ℕ) → length (lowered t) ≡ length t
lower-length [] = refl
lower-length (b ∷ t) = ap suc (lower-length t)

lower-count : (ps : List (List ℕ)) → length (map lowered ps) ≡ length ps
lower-count [] = refl
lower-count (p ∷ ps) = ap suc (lower-count ps)

lower-each : (test : List ℕ → Bool) → ((t : List ℕ) → test (lowered t) ≡ test t) → (ps : List (List ℕ)) → list_all test (map lowered ps) ≡ list_all test ps
lower-each test same [] = refl
lower-each test same (p ∷ ps) = ap (λ x. x && list_all test (map lowered ps)) (same p) ∙ ap (λ x. test p && x) (lower-each test same ps)

-- ---- addresses

lower-octet : (t : List ℕ) → is_dec_octet (lowered t) ≡ is_dec_octet t
lower-octet [] = refl
lower-octet (a ∷ []) = lower-digit a
lower-octet (a ∷ b ∷ []) = rw (lower-most a, lower-digit b) refl
lower-octet (a ∷ b ∷ c ∷ []) = rw (lower-one a, lower-two a, lower-five b, lower-few b, lower-digit b, lower-digit c, lower-some c) refl
lower-octet (a ∷ b ∷ c ∷ d ∷ rest) = refl

lower-ipv4 : (t : List ℕ) → is_ipv4_address (lowered t) ≡ is_ipv4_address t
lower-ipv4 t =
    ap (λ ps. list_all is_dec_octet ps && length ps == 4) (lower-pieces 46 lower-dot t)
    ∙ ap (λ b. b && length (map lowered (pieces 46 t)) == 4) (lower-each (λ p. is_dec_octet p) lower-octet (pieces 46 t))
    ∙ ap (λ n. list_all is_dec_octet (pieces 46 t) && n == 4) (lower-count (pieces 46 t))

lower-h16 : (t : List ℕ) → is_h16 (lowered t) ≡ is_h16 t
lower-h16 t =
    ap (λ b. not b && nat_le (length (lowered t)) 4 && list_all is_hex (lowered t)) (lower-empty t)
    ∙ ap (λ n. not (is_empty t) && nat_le n 4 && list_all is_hex (lowered t)) (lower-length t)
    ∙ ap (λ b. not (is_empty t) && nat_le (length t) 4 && b) (lower-all (λ b. is_hex b) lower-hex t)

lower-ls32 : (ps : List (List ℕ)) → is_ls32 (map lowered ps) ≡ is_ls32 ps
lower-ls32 [] = refl
lower-ls32 (p ∷ []) = lower-ipv4 p
lower-ls32 (p ∷ q ∷ []) = ap (λ b. b && is_h16 (lowered q)) (lower-h16 p) ∙ ap (λ b. is_h16 p && b) (lower-h16 q)
lower-ls32 (p ∷ q ∷ r ∷ rest) = refl

lower-with_ls32 : (n : ℕ) (ps : List (List ℕ)) → with_ls32 n (map lowered ps) ≡ with_ls32 n ps
lower-with_ls32 zero ps = lower-ls32 ps
lower-with_ls32 (suc n) [] = refl
lower-with_ls32 (suc n) (p ∷ ps) = ap (λ b. b && with_ls32 n (map lowered ps)) (lower-h16 p) ∙ ap (λ b. is_h16 p && b) (lower-with_ls32 n ps)

lower-pieces_ls32 : (n : ℕ) (t : List ℕ) → with_ls32 n (pieces 58 (lowered t)) ≡ with_ls32 n (pieces 58 t)
lower-pieces_ls32 n t = ap (with_ls32 n) (lower-pieces 58 lower-colon t) ∙ lower-with_ls32 n (pieces 58 t)

lower-up_to : (n : ℕ) (t : List ℕ) → up_to n (lowered t) ≡ up_to n t
lower-up_to n t =
    ap (λ b. b || (list_all is_h16 (pieces 58 (lowered t)) && nat_le (length (pieces 58 (lowered t))) (n + 1))) (lower-empty t)
    ∙ ap (λ ps. is_empty t || (list_all is_h16 ps && nat_le (length ps) (n + 1))) (lower-pieces 58 lower-colon t)
    ∙ ap (λ b. is_empty t || (b && nat_le (length (map lowered (pieces 58 t))) (n + 1))) (lower-each (λ p. is_h16 p) lower-h16 (pieces 58 t))
    ∙ ap (λ m. is_empty t || (list_all is_h16 (pieces 58 t) && nat_le m (n + 1))) (lower-count (pieces 58 t))

lower-colons : (t : List ℕ) → cut_at_colons (lowered t) ≡ (lowered (cut_at_colons t).0, option_map lowered (cut_at_colons t).1)
lower-colons [] = refl
lower-colons (x ∷ []) = refl
lower-colons (x ∷ y ∷ rest) =
    ap (λ b. if b && to_ascii_lowercase y == 58 then ([], Some (lowered rest)) else with_first (to_ascii_lowercase x) (cut_at_colons (lowered (y ∷ rest)))) (lower-colon x)
    ∙ ap (λ b. if x == 58 && b then ([], Some (lowered rest)) else with_first (to_ascii_lowercase x) (cut_at_colons (lowered (y ∷ rest)))) (lower-colon y)
    ∙ by_test (x == 58 && y == 58) (lower-colons (y ∷ rest))
  where
    low : List ℕ × Option (List ℕ) → List ℕ × Option (List ℕ)
    low p = (lowered p.0, option_map lowered p.1)

    first : (p : List ℕ × Option (List ℕ)) → with_first (to_ascii_lowercase x) (lowered p.0, option_map lowered p.1) ≡ low (with_first x p)
    first (t, o) = refl

    by_test : (b : Bool) → cut_at_colons (lowered (y ∷ rest)) ≡ (lowered (cut_at_colons (y ∷ rest)).0, option_map lowered (cut_at_colons (y ∷ rest)).1)
        → (if b then ([], Some (lowered rest)) else with_first (to_ascii_lowercase x) (cut_at_colons (lowered (y ∷ rest)))) ≡ low (if b then ([], Some rest) else with_first x (cut_at_colons (y ∷ rest)))
    by_test true more = refl
    by_test false more = ap (with_first (to_ascii_lowercase x)) more ∙ first (cut_at_colons (y ∷ rest))

both : {a b c d : Bool} → a ≡ b → c ≡ d → (a && c) ≡ (b && d)
both {a} {b} {c} {d} e f = ap (λ x. x && c) e ∙ ap (λ x. b && x) f

either : {a b c d : Bool} → a ≡ b → c ≡ d → (a || c) ≡ (b || d)
either {a} {b} {c} {d} e f = ap (λ x. x || c) e ∙ ap (λ x. b || x) f

lower-ipv6_cut : (p : List ℕ × Option (List ℕ)) → is_ipv6_cut (lowered p.0, option_map lowered p.1) ≡ is_ipv6_cut p
lower-ipv6_cut (all, None) = lower-pieces_ls32 6 all
lower-ipv6_cut (left, Some right) =
    either (either (either (either (either (either (either (both (lower-empty left) (lower-pieces_ls32 5 right))
    (both (lower-up_to 0 left) (lower-pieces_ls32 4 right)))
    (both (lower-up_to 1 left) (lower-pieces_ls32 3 right)))
    (both (lower-up_to 2 left) (lower-pieces_ls32 2 right)))
    (both (lower-up_to 3 left) (lower-pieces_ls32 1 right)))
    (both (lower-up_to 4 left) (lower-pieces_ls32 0 right)))
    (both (lower-up_to 5 left) (lower-h16 right)))
    (both (lower-up_to 6 left) (lower-empty right))

lower-ipv6 : (t : List ℕ) → is_ipv6_address (lowered t) ≡ is_ipv6_address t
unfolding is_ipv6_address
lower-ipv6 t = ap is_ipv6_cut (lower-colons t) ∙ lower-ipv6_cut (cut_at_colons t)

lower-is_version : (t : List ℕ) → is_version (lowered t) ≡ is_version t
lower-is_version [] = refl
lower-is_version (v ∷ digits) =
    ap (λ b. b && not (is_empty (lowered digits)) && list_all is_hex (lowered digits)) (lower-version v)
    ∙ ap (λ b. (v == 118 || v == 86) && not b && list_all is_hex (lowered digits)) (lower-empty digits)
    ∙ ap (λ b. (v == 118 || v == 86) && not (is_empty digits) && b) (lower-all (λ b. is_hex b) lower-hex digits)

lower-future_cut : (p : List ℕ × Option (List ℕ)) → is_future_cut (lowered p.0, option_map lowered p.1) ≡ is_future_cut p
lower-future_cut (all, None) = refl
lower-future_cut (version, Some text) =
    ap (λ b. b && not (is_empty (lowered text)) && list_all is_future_byte (lowered text)) (lower-is_version version)
    ∙ ap (λ b. is_version version && not b && list_all is_future_byte (lowered text)) (lower-empty text)
    ∙ ap (λ b. is_version version && not (is_empty text) && b) (lower-all (λ b. is_future_byte b) lower-future text)

lower-ip_future : (t : List ℕ) → is_ip_future (lowered t) ≡ is_ip_future t
lower-ip_future t = ap is_future_cut (lower-cut 46 lower-dot t) ∙ lower-future_cut (cut_at 46 t)

lower-closed : (p : List ℕ × Option (List ℕ)) → is_closed (lowered p.0, option_map lowered p.1) ≡ is_closed p
lower-closed (inner, None) = refl
lower-closed (inner, Some rest) =
    ap (λ b. b && (is_ipv6_address (lowered inner) || is_ip_future (lowered inner))) (lower-empty rest)
    ∙ ap (λ b. is_empty rest && (b || is_ip_future (lowered inner))) (lower-ipv6 inner)
    ∙ ap (λ b. is_empty rest && (is_ipv6_address inner || b)) (lower-ip_future inner)

pub lower-literal : (t : List ℕ) → is_ip_literal (lowered t) ≡ is_ip_literal t
lower-literal [] = refl
lower-literal (b ∷ t) =
    ap (λ x. x && is_closed (cut_at 93 (lowered t))) (lower-opening b)
    ∙ ap (λ p. b == 91 && is_closed p) (lower-cut 93 lower-closing t)
    ∙ ap (λ x. b == 91 && x) (lower-closed (cut_at 93 t))

-- ---- an address of four numbers could be a name

octet_digits : (p : List ℕ) → is_dec_octet p ≡ true → list_all is_digit p ≡ true
octet_digits [] h = absurd (true_false (sym h))
octet_digits (a ∷ []) h = grind (arith, common_steps)
octet_digits (a ∷ b ∷ []) h = grind (arith, common_steps)
octet_digits (a ∷ b ∷ c ∷ []) h = grind (arith, common_steps)
octet_digits (a ∷ b ∷ c ∷ d ∷ rest) h = absurd (true_false (sym h))

all-octets : (ps : List (List ℕ)) → list_all is_dec_octet ps ≡ true → list_all (λ p. list_all is_digit p) ps ≡ true
all-octets [] h = refl
all-octets (p ∷ ps) h = and_both (list_all is_digit p) _ (octet_digits p (and_left (is_dec_octet p) _ h)) (all-octets ps (and_right (is_dec_octet p) _ h))

digit-name : (b : ℕ) → is_digit b ≡ true → ((is_unreserved b || is_sub_delim b) || b == 37) ≡ true
digit-name b e = or_left _ (b == 37) (or_left _ (is_sub_delim b) (grind (arith, common_steps)))

digit-percent : (b : ℕ) → is_digit b ≡ true → (b == 37) ≡ false
digit-percent b e = grind (arith, common_steps)

first-piece : (x : ℕ) (ps : List (List ℕ)) → is_empty ps ≡ false → list_all (λ p. list_all is_digit p) (onto_first x ps) ≡ true
    → (is_digit x ≡ true) × (list_all (λ p. list_all is_digit p) ps ≡ true)
first-piece x [] e h = absurd (true_false e)
first-piece x (p ∷ ps) e h =
    let f = and_left (is_digit x && list_all is_digit p) _ h in
    (and_left (is_digit x) _ f, and_both (list_all is_digit p) _ (and_right (is_digit x) _ f) (and_right (is_digit x && list_all is_digit p) _ h))

pieces-name : (t : List ℕ) → list_all (λ p. list_all is_digit p) (pieces 46 t) ≡ true → is_reg_name t ≡ true
pieces-name [] h = refl
pieces-name (x ∷ xs) h = by_test (x == 46) refl h (λ f. pieces-name xs f)
  where
    by_test : (b : Bool) → b ≡ (x == 46) → list_all (λ p. list_all is_digit p) (if b then [] ∷ pieces 46 xs else onto_first x (pieces 46 xs)) ≡ true
        → (list_all (λ p. list_all is_digit p) (pieces 46 xs) ≡ true → is_reg_name xs ≡ true) → is_reg_name (x ∷ xs) ≡ true
    by_test true e f more = subst (λ n. is_reg_name (n ∷ xs) ≡ true) (sym (from_test x 46 (sym e))) (more f)
    by_test false e f more =
        let g = first-piece x (pieces 46 xs) (pieces_filled 46 xs) f in
        and_both _ _ (digit-name x g.0)
        (ap (λ b. is_encoded (λ n. is_unreserved n || is_sub_delim n) (if b then 2 else 0) xs) (digit-percent x g.0) ∙ more g.1)

pub ipv4-name : (t : List ℕ) → is_ipv4_address t ≡ true → is_reg_name t ≡ true
ipv4-name t h = pieces-name t (all-octets (pieces 46 t) (and_left (list_all is_dec_octet (pieces 46 t)) _ h))
