-- Which bytes an address does not have.
use Rattle.std.proofs.Common.{◌≡◌, ◌==◌, ◌∙◌, ◌||◌, ◌&&◌, List, [], ◌∷◌, ◌++◌, ℕ, not, nat_le, ◌+◌, Bool, true, false, ap, sym, refl, arith, Option, Some, None, inl, inr, if◌then◌else◌, option_map, length}
use Rattle.std.specs.Prelude.{codes}
use Rattle.std.specs.List.{list_all, onto_first}
use Rattle.std.proofs.lemmas.Bool.{eqb-true, or_parts, and_parts, or_cases, or_from, and_from, not-true}
use Rattle.std.proofs.lemmas.Bool.Decides.{nat_tests}
use Rattle.std.proofs.lemmas.List.{append-nil}
use Rattle.uri_grammar.specs.Texts.{cut_at, behind, pieces, has, is_digit, is_hex, is_empty}
use Rattle.uri_grammar.specs.Addresses.{is_unreserved, is_sub_delim, is_dec_octet, is_ipv4_address, is_h16, cut_at_colons, with_first, is_ipv6_address, is_future_byte, is_version, is_future_cut, is_ip_future, is_closed, is_ip_literal}
use Rattle.uri_grammar.specs.Groups.{groups, groups_beside, is_count, counts}
use Rattle.uri_grammar.proofs.Groups.{pieces_filled}
use Rattle.uri_grammar.proofs.Bytes.{has_append, other, all_lacks}
use Rattle.uri_grammar.proofs.Forms.{forms}
use Rattle.uri_grammar.proofs.Halves.{cut_whole}

-- a byte that no piece has
onto_lacks : (c x : ℕ) (ps : List (List ℕ)) → is_empty ps ≡ false → list_all (λ p. not (has c p)) (onto_first x ps) ≡ true → ((x == c) ≡ false) × (list_all (λ p. not (has c p)) ps ≡ true)
onto_lacks c x [] filled h = absurd cc
onto_lacks c x (p ∷ ps) filled h =
    let f = and_parts (not (has c (x ∷ p))) (list_all (λ p. not (has c p)) ps) h in
    let g = or_parts (x == c) (has c p) (not-true (has c (x ∷ p)) f.0) in
    (g.0, and_from (not (has c p)) (list_all (λ p. not (has c p)) ps) (ap not g.1) f.1)

pub pieces_lack : (c d : ℕ) → (d == c) ≡ false → (bs : List ℕ) → list_all (λ p. not (has c p)) (pieces d bs) ≡ true → has c bs ≡ false
pieces_lack c d apart [] h = refl
pieces_lack c d apart (x ∷ xs) h = go (x == d) refl (λ k. pieces_lack c d apart xs k)
  where
    step : Bool → List (List ℕ)
    step b = if b then [] ∷ pieces d xs else onto_first x (pieces d xs)

    go : (b : Bool) → (x == d) ≡ b → (list_all (λ p. not (has c p)) (pieces d xs) ≡ true → has c xs ≡ false) → has c (x ∷ xs) ≡ false
    go true e more =
        or_from (x == c) (has c xs) (ap (λ y. y == c) (eqb-true x d e) ∙ apart) (more (sym (ap (λ b. list_all (λ p. not (has c p)) (step b)) e) ∙ h))
    go false e more =
        let f = onto_lacks c x (pieces d xs) (pieces_filled d xs) (sym (ap (λ b. list_all (λ p. not (has c p)) (step b)) e) ∙ h) in
        or_from (x == c) (has c xs) f.0 (more f.1)

pub all_pieces_lack : (test : List ℕ → Bool) (c : ℕ) → ((p : List ℕ) → test p ≡ true → has c p ≡ false) → (ps : List (List ℕ)) → list_all test ps ≡ true → list_all (λ p. not (has c p)) ps ≡ true
all_pieces_lack test c lack [] h = refl
all_pieces_lack test c lack (p ∷ ps) h =
    let f = and_parts (test p) (list_all test ps) h in
    and_from (not (has c p)) (list_all (λ p. not (has c p)) ps) (ap not (lack p f.0)) (all_pieces_lack test c lack ps f.1)

octet_digits : (bs : List ℕ) → is_dec_octet bs ≡ true → list_all is_digit bs ≡ true
octet_digits [] h = refl
octet_digits (a ∷ []) h = grind (arith, nat_tests)
octet_digits (a ∷ b ∷ []) h = grind (arith, nat_tests)
octet_digits (a ∷ b ∷ c ∷ []) h = grind (arith, nat_tests)
octet_digits (a ∷ b ∷ c ∷ d ∷ rest) h = absurd cc

-- a byte that no component may have
pub record Outside (c : ℕ) : Type 0 where
  pub hex : is_hex c ≡ false
  pub digit : is_digit c ≡ false
  pub name : (is_unreserved c || is_sub_delim c) ≡ false
  pub user : (is_unreserved c || is_sub_delim c || c == 58) ≡ false
  pub version : (c == 118 || c == 86) ≡ false
  pub dot : (46 == c) ≡ false
  pub colon : (58 == c) ≡ false
  pub opening : (91 == c) ≡ false
  pub closing : (93 == c) ≡ false

pub ipv4_lacks : (c : ℕ) → is_digit c ≡ false → (46 == c) ≡ false → (bs : List ℕ) → is_ipv4_address bs ≡ true → has c bs ≡ false
ipv4_lacks c digit dot bs h =
    let f = and_parts (list_all is_dec_octet (pieces 46 bs)) (length (pieces 46 bs) == 4) h in
    pieces_lack c 46 dot bs (all_pieces_lack is_dec_octet c (λ p octet. all_lacks is_digit c digit p (octet_digits p octet)) (pieces 46 bs) f.0)

h16_lacks : (c : ℕ) → Outside c → (bs : List ℕ) → is_h16 bs ≡ true → has c bs ≡ false
h16_lacks c out bs h = all_lacks is_hex c out.hex bs (and_parts (not (is_empty bs) && nat_le (length bs) 4) (list_all is_hex bs) h).1

groups_lack : (c : ℕ) → Outside c → (ends : Bool) (ps : List (List ℕ)) (n : ℕ) → groups ends ps ≡ Some n → list_all (λ p. not (has c p)) ps ≡ true
groups_lack c out ends [] n h = absurd cc
groups_lack c out ends (p ∷ []) n h = go (is_h16 p) (ends && is_ipv4_address p) refl refl
  where
    go : (a b : Bool) → is_h16 p ≡ a → (ends && is_ipv4_address p) ≡ b → list_all (λ q. not (has c q)) (p ∷ []) ≡ true
    go true b e k = ap (λ t. not t && true) (h16_lacks c out p e)
    go false true e k = ap (λ t. not t && true) (ipv4_lacks c out.digit out.dot p (and_parts ends (is_ipv4_address p) k).1)
    go false false e k =
        let none : None ≡ Some n = sym (ap (λ t. if t then Some 1 else (if ends && is_ipv4_address p then Some 2 else None)) e ∙ ap (λ t. if t then Some 2 else None) k) ∙ h in
        absurd cc
groups_lack c out ends (p ∷ q ∷ rest) n h = go (is_h16 p) (groups ends (q ∷ rest)) refl refl (λ m e. groups_lack c out ends (q ∷ rest) m e)
  where
    go : (a : Bool) (o : Option ℕ) → is_h16 p ≡ a → groups ends (q ∷ rest) ≡ o → ((m : ℕ) → groups ends (q ∷ rest) ≡ Some m → list_all (λ t. not (has c t)) (q ∷ rest) ≡ true) → list_all (λ t. not (has c t)) (p ∷ q ∷ rest) ≡ true
    go true (Some m) e k more = and_from (not (has c p)) (list_all (λ t. not (has c t)) (q ∷ rest)) (ap not (h16_lacks c out p e)) (more m k)
    go true None e k more =
        let none : None ≡ Some n = sym (ap (λ t. if t then option_map (λ m. 1 + m) (groups ends (q ∷ rest)) else None) e ∙ ap (option_map (λ m. 1 + m)) k) ∙ h in
        absurd cc
    go false o e k more =
        let none : None ≡ Some n = sym (ap (λ t. if t then option_map (λ m. 1 + m) (groups ends (q ∷ rest)) else None) e) ∙ h in
        absurd cc

groups_of_lack : (c : ℕ) → Outside c → (ends : Bool) (bs : List ℕ) (n : ℕ) → groups ends (pieces 58 bs) ≡ Some n → has c bs ≡ false
groups_of_lack c out ends bs n h = pieces_lack c 58 out.colon bs (groups_lack c out ends (pieces 58 bs) n h)

beside_lacks : (c : ℕ) → Outside c → (ends : Bool) (bs : List ℕ) (n : ℕ) → groups_beside ends bs ≡ Some n → has c bs ≡ false
beside_lacks c out ends [] n h = refl
beside_lacks c out ends (b ∷ bs) n h = groups_of_lack c out ends (b ∷ bs) n h

counted_is : (test : ℕ → Bool) (o : Option ℕ) → is_count test o ≡ true → (n : ℕ) × (o ≡ Some n)
counted_is test None h = absurd cc
counted_is test (Some n) h = (n, refl)

colons_whole : (bs : List ℕ) → (cut_at_colons bs).0 ++ behind (codes "::") (cut_at_colons bs).1 ≡ bs
colons_whole [] = refl
colons_whole (x ∷ []) = refl
colons_whole (x ∷ y ∷ rest) = go (x == 58 && y == 58) refl (colons_whole (y ∷ rest))
  where
    step : Bool → List ℕ × Option (List ℕ)
    step b = if b then ([], Some rest) else with_first x (cut_at_colons (y ∷ rest))

    onto : (p : List ℕ × Option (List ℕ)) → (with_first x p).0 ++ behind (codes "::") (with_first x p).1 ≡ x ∷ (p.0 ++ behind (codes "::") p.1)
    onto (t, o) = refl

    go : (b : Bool) → (x == 58 && y == 58) ≡ b → (cut_at_colons (y ∷ rest)).0 ++ behind (codes "::") (cut_at_colons (y ∷ rest)).1 ≡ y ∷ rest → (step (x == 58 && y == 58)).0 ++ behind (codes "::") (step (x == 58 && y == 58)).1 ≡ x ∷ y ∷ rest
    go true e more =
        let f = and_parts (x == 58) (y == 58) e in
        ap (λ b. (step b).0 ++ behind (codes "::") (step b).1) e ∙ sym (ap (λ z. z ∷ y ∷ rest) (eqb-true x 58 f.0) ∙ ap (λ z. 58 ∷ z ∷ rest) (eqb-true y 58 f.1))
    go false e more = ap (λ b. (step b).0 ++ behind (codes "::") (step b).1) e ∙ onto (cut_at_colons (y ∷ rest)) ∙ ap (λ t. x ∷ t) more

ipv6_lacks : (c : ℕ) → Outside c → (bs : List ℕ) → is_ipv6_address bs ≡ true → has c bs ≡ false
unfolding is_ipv6_address
ipv6_lacks c out bs h = go (cut_at_colons bs) (colons_whole bs) (sym (forms (cut_at_colons bs)) ∙ h)
  where
    go : (p : List ℕ × Option (List ℕ)) → p.0 ++ behind (codes "::") p.1 ≡ bs → counts p ≡ true → has c bs ≡ false
    go (all, None) e k =
        let f = counted_is (λ n. n == 8) (groups true (pieces 58 all)) k in
        ap (has c) (sym e) ∙ ap (has c) (append-nil all) ∙ groups_of_lack c out true all f.0 f.1
    go (left, Some right) e k =
        let f = counted_is (λ n. is_count (λ m. nat_le (n + m) 7) (groups_beside true right)) (groups_beside false left) k in
        let inner : is_count (λ m. nat_le (f.0 + m) 7) (groups_beside true right) ≡ true = sym (ap (is_count (λ n. is_count (λ m. nat_le (n + m) 7) (groups_beside true right))) f.1) ∙ k in
        let g = counted_is (λ m. nat_le (f.0 + m) 7) (groups_beside true right) inner in
        ap (has c) (sym e) ∙ has_append c left (58 ∷ 58 ∷ right) (beside_lacks c out false left f.0 f.1)
        (or_from (58 == c) (58 == c || has c right) out.colon (or_from (58 == c) (has c right) out.colon (beside_lacks c out true right g.0 g.1)))

future_lacks : (c : ℕ) → Outside c → (bs : List ℕ) → is_ip_future bs ≡ true → has c bs ≡ false
future_lacks c out bs h = go (cut_at 46 bs) (cut_whole 46 bs) h
  where
    version : (v : List ℕ) → is_version v ≡ true → has c v ≡ false
    version [] k = refl
    version (v ∷ digits) k =
        let f = and_parts ((v == 118 || v == 86) && not (is_empty digits)) (list_all is_hex digits) k in
        let g = and_parts (v == 118 || v == 86) (not (is_empty digits)) f.0 in
        or_from (v == c) (has c digits) (other (λ b. b == 118 || b == 86) c v out.version g.0) (all_lacks is_hex c out.hex digits f.1)

    go : (p : List ℕ × Option (List ℕ)) → p.0 ++ behind (46 ∷ []) p.1 ≡ bs → is_future_cut p ≡ true → has c bs ≡ false
    go (all, None) e k = absurd cc
    go (v, Some text) e k =
        let f = and_parts (is_version v && not (is_empty text)) (list_all is_future_byte text) k in
        let g = and_parts (is_version v) (not (is_empty text)) f.0 in
        ap (has c) (sym e) ∙ has_append c v (46 ∷ text) (version v g.0) (or_from (46 == c) (has c text) out.dot (all_lacks is_future_byte c out.user text f.1))

pub literal_lacks : (c : ℕ) → Outside c → (bs : List ℕ) → is_ip_literal bs ≡ true → has c bs ≡ false
literal_lacks c out [] h = refl
literal_lacks c out (b ∷ bs) h = go (cut_at 93 bs) (cut_whole 93 bs) (and_parts (b == 91) (is_closed (cut_at 93 bs)) h).1
  where
    first : (b == c) ≡ false
    first = ap (λ x. x == c) (eqb-true b 91 (and_parts (b == 91) (is_closed (cut_at 93 bs)) h).0) ∙ out.opening

    inside : (inner : List ℕ) → (is_ipv6_address inner || is_ip_future inner) ≡ true → has c inner ≡ false
    inside inner k = elim (or_cases (is_ipv6_address inner) (is_ip_future inner) k) [ inl e ↦ ipv6_lacks c out inner e | inr e ↦ future_lacks c out inner e ]

    go : (p : List ℕ × Option (List ℕ)) → p.0 ++ behind (93 ∷ []) p.1 ≡ bs → is_closed p ≡ true → has c (b ∷ bs) ≡ false
    go (inner, None) e k = absurd cc
    go (inner, Some []) e k = or_from (b == c) (has c bs) first (ap (has c) (sym e) ∙ has_append c inner (93 ∷ []) (inside inner k) (or_from (93 == c) false out.closing refl))
    go (inner, Some (x ∷ rest)) e k = absurd cc

pub outside_hash : Outside 35
outside_hash = record { hex = refl; digit = refl; name = refl; user = refl; version = refl; dot = refl; colon = refl; opening = refl; closing = refl }

pub outside_slash : Outside 47
outside_slash = record { hex = refl; digit = refl; name = refl; user = refl; version = refl; dot = refl; colon = refl; opening = refl; closing = refl }

pub outside_question : Outside 63
outside_question = record { hex = refl; digit = refl; name = refl; user = refl; version = refl; dot = refl; colon = refl; opening = refl; closing = refl }

pub outside_at : Outside 64
outside_at = record { hex = refl; digit = refl; name = refl; user = refl; version = refl; dot = refl; colon = refl; opening = refl; closing = refl }

pub outside_percent : Outside 37
outside_percent = record { hex = refl; digit = refl; name = refl; user = refl; version = refl; dot = refl; colon = refl; opening = refl; closing = refl }
