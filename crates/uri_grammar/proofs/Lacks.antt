-- Which bytes a component that meets the grammar does not have.
use Rattle.std.proofs.Common.{◌≡◌, ◌==◌, ◌∙◌, ◌||◌, ◌&&◌, List, [], ◌∷◌, ◌++◌, ℕ, zero, suc, Bool, true, false, ap, sym, refl, Option, Some, None, inl, inr, if◌then◌else◌}
use Rattle.std.specs.List.{list_all, before_last, after_last}
use Rattle.std.proofs.lemmas.Bool.{and_parts, or_cases, or_from, and_from}
use Rattle.std.proofs.lemmas.List.{append-nil}
use Rattle.uri_grammar.specs.Texts.{cut_at, cut_at_last, all_or_none, has, is_digit, is_hex, is_letter}
use Rattle.uri_grammar.specs.Parts.{behind}
use Rattle.uri_grammar.specs.Addresses.{is_unreserved, is_sub_delim, is_ip_literal, is_ipv4_address}
use Rattle.uri_grammar.proofs.Bytes.{has_append, other, all_lacks}
use Rattle.uri_grammar.proofs.Halves.{cut_whole}
use Rattle.uri_grammar.proofs.AddressLacks.{Outside, ipv4_lacks, literal_lacks}
use Rattle.uri_grammar.proofs.Lasts.{last_view}
use Rattle.uri_grammar.specs.Grammar.{is_encoded, fits, due_after, is_host, is_reg_name, is_userinfo, is_port, port_of, port_in, userinfo_of, is_authority, is_scheme, is_scheme_byte}

fits_not : (allowed : ℕ → Bool) (c due : ℕ) → allowed c ≡ false → is_hex c ≡ false → (c == 37) ≡ false → fits allowed due c ≡ false
fits_not allowed c zero fails hex percent = or_from (allowed c) (c == 37) fails percent
fits_not allowed c (suc due) fails hex percent = hex

pub encoded_lacks : (allowed : ℕ → Bool) (c : ℕ) → allowed c ≡ false → is_hex c ≡ false → (c == 37) ≡ false → (due : ℕ) (bs : List ℕ) → is_encoded allowed due bs ≡ true → has c bs ≡ false
encoded_lacks allowed c fails hex percent due [] h = refl
encoded_lacks allowed c fails hex percent due (b ∷ bs) h =
    let f = and_parts (fits allowed due b) (is_encoded allowed (due_after due b) bs) h in
    or_from (b == c) (has c bs) (other (fits allowed due) c b (fits_not allowed c due fails hex percent) f.0)
    (encoded_lacks allowed c fails hex percent (due_after due b) bs f.1)

pub host_lacks : (c : ℕ) → Outside c → (c == 37) ≡ false → (bs : List ℕ) → is_host bs ≡ true → has c bs ≡ false
host_lacks c out percent bs h = elim (or_cases (is_ip_literal bs || is_ipv4_address bs) (is_reg_name bs) h) [
  | inl k ↦ elim (or_cases (is_ip_literal bs) (is_ipv4_address bs) k) [ inl e ↦ literal_lacks c out bs e | inr e ↦ ipv4_lacks c out.digit out.dot bs e ]
  | inr e ↦ encoded_lacks (λ b. is_unreserved b || is_sub_delim b) c out.name out.hex percent 0 bs e
]

pub port_lacks : (c : ℕ) → Outside c → (o : Option (List ℕ)) → all_or_none is_port o ≡ true → has c (behind (58 ∷ []) o) ≡ false
port_lacks c out None h = refl
port_lacks c out (Some port) h = or_from (58 == c) (has c port) out.colon (all_lacks is_digit c out.digit port h)

pub port_whole : (bs : List ℕ) → (port_of bs).0 ++ behind (58 ∷ []) (port_of bs).1 ≡ bs
port_whole bs = go (has 58 bs) refl
  where
    shown : List ℕ × Option (List ℕ) → List ℕ
    shown p = (port_in bs p).0 ++ behind (58 ∷ []) (port_in bs p).1

    go : (b : Bool) → has 58 bs ≡ b → shown (cut_at_last 58 bs) ≡ bs
    go true e =
        let f = last_view 58 bs e in
        ap shown f.2 ∙ inner f.0 f.1 f.3 (has 93 f.1) refl
      where
        inner : (xs ys : List ℕ) → bs ≡ xs ++ 58 ∷ ys → (b : Bool) → has 93 ys ≡ b → shown (xs, Some ys) ≡ bs
        inner xs ys k true h = ap (λ t. (pick xs ys t).0 ++ behind (58 ∷ []) (pick xs ys t).1) h ∙ append-nil bs
          where
            pick : List ℕ → List ℕ → Bool → List ℕ × Option (List ℕ)
            pick xs ys t = if t then (bs, None) else (xs, Some ys)
        inner xs ys k false h = ap (λ t. (pick xs ys t).0 ++ behind (58 ∷ []) (pick xs ys t).1) h ∙ sym k
          where
            pick : List ℕ → List ℕ → Bool → List ℕ × Option (List ℕ)
            pick xs ys t = if t then (bs, None) else (xs, Some ys)
    go false e = ap shown (ap (λ t. if t then (before_last (λ x. x == 58) bs, Some (after_last (λ x. x == 58) bs)) else (bs, None)) e) ∙ append-nil bs

host_port_lacks : (c : ℕ) → Outside c → (c == 37) ≡ false → (bs : List ℕ) → (is_host (port_of bs).0 && all_or_none is_port (port_of bs).1) ≡ true → has c bs ≡ false
host_port_lacks c out percent bs h =
    let f = and_parts (is_host (port_of bs).0) (all_or_none is_port (port_of bs).1) h in
    ap (has c) (sym (port_whole bs)) ∙ has_append c (port_of bs).0 (behind (58 ∷ []) (port_of bs).1) (host_lacks c out percent (port_of bs).0 f.0) (port_lacks c out (port_of bs).1 f.1)

pub authority_lacks : (c : ℕ) → Outside c → (c == 37) ≡ false → (64 == c) ≡ false → (bs : List ℕ) → is_authority bs ≡ true → has c bs ≡ false
authority_lacks c out percent at bs h = go (cut_at 64 bs) (cut_whole 64 bs) h
  where
    parts : List ℕ × Option (List ℕ) → Bool
    parts p = all_or_none is_userinfo (userinfo_of p).0 && is_host (port_of (userinfo_of p).1).0 && all_or_none is_port (port_of (userinfo_of p).1).1

    go : (p : List ℕ × Option (List ℕ)) → p.0 ++ behind (64 ∷ []) p.1 ≡ bs → parts p ≡ true → has c bs ≡ false
    go (all, None) e k = ap (has c) (sym e) ∙ ap (has c) (append-nil all) ∙ host_port_lacks c out percent all k
    go (user, Some rest) e k =
        let f = and_parts (is_userinfo user && is_host (port_of rest).0) (all_or_none is_port (port_of rest).1) k in
        let g = and_parts (is_userinfo user) (is_host (port_of rest).0) f.0 in
        ap (has c) (sym e) ∙ has_append c user (64 ∷ rest) (encoded_lacks (λ b. is_unreserved b || is_sub_delim b || b == 58) c out.user out.hex percent 0 user g.0)
        (or_from (64 == c) (has c rest) at (host_port_lacks c out percent rest (and_from (is_host (port_of rest).0) (all_or_none is_port (port_of rest).1) g.1 f.1)))

pub scheme_lacks : (c : ℕ) → is_letter c ≡ false → is_scheme_byte c ≡ false → (bs : List ℕ) → is_scheme bs ≡ true → has c bs ≡ false
scheme_lacks c letter byte [] h = refl
scheme_lacks c letter byte (b ∷ bs) h =
    let f = and_parts (is_letter b) (list_all is_scheme_byte bs) h in
    or_from (b == c) (has c bs) (other is_letter c b letter f.0) (all_lacks is_scheme_byte c byte bs f.1)
