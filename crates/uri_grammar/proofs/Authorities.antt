-- The parts of an authority come back from its text.
use Rattle.std.proofs.Common.{◌≡◌, ◌==◌, ◌∙◌, ◌||◌, ◌&&◌, List, [], ◌∷◌, ◌++◌, ℕ, Bool, true, false, ap, sym, refl, arith, length, length-append, append_assoc, Option, Some, None, inl, inr, if◌then◌else◌}
use Rattle.std.specs.Prelude.{codes}
use Rattle.std.specs.List.{before_last, after_last}
use Rattle.std.proofs.lemmas.Bool.{or_left, or_right, or_cases, and_parts, both_ways, eq-eqb}
use Rattle.std.proofs.lemmas.List.{append-nil}
use Rattle.uri_grammar.specs.Texts.{cut_at, cut_at_last, has, all_or_none, is_digit}
use Rattle.uri_grammar.specs.Parts.{before, behind}
use Rattle.uri_grammar.specs.Addresses.{is_unreserved, is_sub_delim, is_ip_literal, is_ipv4_address, is_closed}
use Rattle.uri_grammar.specs.Grammar.{AuthorityParts, authority_parts, written_authority, is_authority_of, is_userinfo, is_host, is_reg_name, is_port, port_of, port_in, userinfo_of}
use Rattle.uri_grammar.proofs.Halves.{cut_behind, cut_none, cut_whole}
use Rattle.uri_grammar.proofs.Lasts.{last_view, last_behind}
use Rattle.uri_grammar.proofs.Bytes.{has_append, all_lacks}
use Rattle.uri_grammar.proofs.Lacks.{host_lacks, port_lacks, port_whole, encoded_lacks}
use Rattle.uri_grammar.proofs.AddressLacks.{outside_at, ipv4_lacks}

last_none : (c : ℕ) (bs : List ℕ) → has c bs ≡ false → cut_at_last c bs ≡ (bs, None)
last_none c bs h = ap (λ t. if t then (before_last (λ x. x == c) bs, Some (after_last (λ x. x == c) bs)) else (bs, None)) h

has_in : (c : ℕ) (xs ys : List ℕ) → has c (xs ++ c ∷ ys) ≡ true
has_in c [] ys = or_left (c == c) (has c ys) (eq-eqb c c refl)
has_in c (x ∷ xs) ys = or_right (x == c) (has c (xs ++ c ∷ ys)) (has_in c xs ys)

-- an address in brackets ends with its bracket
ends_closed : (bs : List ℕ) → is_ip_literal bs ≡ true → (front : List ℕ) × (bs ≡ front ++ 93 ∷ [])
ends_closed [] h = absurd cc
ends_closed (b ∷ bs) h = go (cut_at 93 bs) (cut_whole 93 bs) (and_parts (b == 91) (is_closed (cut_at 93 bs)) h).1
  where
    go : (p : List ℕ × Option (List ℕ)) → p.0 ++ behind (93 ∷ []) p.1 ≡ bs → is_closed p ≡ true → (front : List ℕ) × (b ∷ bs ≡ front ++ 93 ∷ [])
    go (inner, None) e k = absurd cc
    go (inner, Some []) e k = (b ∷ inner, ap (λ t. b ∷ t) (sym e))
    go (inner, Some (x ∷ rest)) e k = absurd cc

-- what stands behind another byte in a text that ends with d ends with it too
has_end : (c d : ℕ) → (d == c) ≡ false → (xs ys front : List ℕ) → xs ++ c ∷ ys ≡ front ++ d ∷ [] → has d ys ≡ true
has_end c d apart [] ys [] e = let same : d ≡ c = cc in absurd (both_ways (d == c) apart (eq-eqb d c same))
has_end c d apart [] ys (f ∷ front) e = let rest : ys ≡ front ++ d ∷ [] = cc in ap (has d) rest ∙ has_in d front []
has_end c d apart (x ∷ xs) ys [] e = let n = ap length e in absurd (omega (arith, n, length-append xs (c ∷ ys)))
has_end c d apart (x ∷ xs) ys (f ∷ front) e = let rest : xs ++ c ∷ ys ≡ front ++ d ∷ [] = cc in has_end c d apart xs ys front rest

-- a host is no host and port
port_none : (host : List ℕ) → is_host host ≡ true → port_of host ≡ (host, None)
port_none host h = go (has 58 host) refl
  where
    bracketed : (xs ys : List ℕ) → host ≡ xs ++ 58 ∷ ys → has 58 host ≡ true → has 93 ys ≡ true
    bracketed xs ys w e = elim (or_cases (is_ip_literal host || is_ipv4_address host) (is_reg_name host) h) [
      | inl k ↦ elim (or_cases (is_ip_literal host) (is_ipv4_address host) k) [
        | inl t ↦ let f = ends_closed host t in has_end 58 93 refl xs ys f.0 (sym w ∙ f.1)
        | inr t ↦ absurd (both_ways (has 58 host) (ipv4_lacks 58 refl refl host t) e)
      ]
      | inr k ↦ absurd (both_ways (has 58 host) (encoded_lacks (λ b. is_unreserved b || is_sub_delim b) 58 refl refl refl 0 host k) e)
    ]

    go : (b : Bool) → has 58 host ≡ b → port_of host ≡ (host, None)
    go false e = ap (port_in host) (last_none 58 host e)
    go true e =
        let f = last_view 58 host e in
        ap (port_in host) f.2 ∙ ap (λ b. if b then (host, None) else (f.0, Some f.1)) (bracketed f.0 f.1 f.3 e)

port_back : (host : List ℕ) (port : Option (List ℕ)) → is_host host ≡ true → all_or_none is_port port ≡ true → port_of (host ++ behind (58 ∷ []) port) ≡ (host, port)
port_back host None h k = ap port_of (append-nil host) ∙ port_none host h
port_back host (Some port) h k =
    ap (port_in (host ++ 58 ∷ port)) (last_behind 58 host port (all_lacks is_digit 58 refl port k))
    ∙ ap (λ b. if b then (host ++ 58 ∷ port, None) else (host, Some port)) (all_lacks is_digit 93 refl port k)

pub authority_back : (a : AuthorityParts) → is_authority_of a ≡ true → authority_parts (written_authority a) ≡ a
authority_back a h =
    let f = and_parts (all_or_none is_userinfo a.userinfo && is_host a.host) (all_or_none is_port a.port) h in
    let g = and_parts (all_or_none is_userinfo a.userinfo) (is_host a.host) f.0 in
    ap by_user (user a.userinfo g.0 (host_lacks 64 outside_at refl a.host g.1) (port_lacks 64 outside_at a.port f.1))
    ∙ ap (by_port a.userinfo) (port_back a.host a.port g.1 f.1)
  where
    by_port : Option (List ℕ) → List ℕ × Option (List ℕ) → AuthorityParts
    by_port userinfo h = record { userinfo = userinfo; host = h.0; port = h.1 }

    by_user : Option (List ℕ) × List ℕ → AuthorityParts
    by_user u = by_port u.0 (port_of u.1)

    user : (u : Option (List ℕ)) → all_or_none is_userinfo u ≡ true → has 64 a.host ≡ false → has 64 (behind (58 ∷ []) a.port) ≡ false → userinfo_of (cut_at 64 (before u (codes "@") ++ a.host ++ behind (58 ∷ []) a.port)) ≡ (u, a.host ++ behind (58 ∷ []) a.port)
    user None sound host port = ap userinfo_of (cut_none 64 (a.host ++ behind (58 ∷ []) a.port) (has_append 64 a.host (behind (58 ∷ []) a.port) host port))
    user (Some u) sound host port =
        let rest = a.host ++ behind (58 ∷ []) a.port in
        ap (λ t. userinfo_of (cut_at 64 t)) (append_assoc (u ++ codes "@") a.host (behind (58 ∷ []) a.port) ∙ append_assoc u (codes "@") rest)
        ∙ ap userinfo_of (cut_behind 64 u (Some rest) (encoded_lacks (λ b. is_unreserved b || is_sub_delim b || b == 58) 64 refl refl refl 0 u sound))

pub authority_whole : (bs : List ℕ) → written_authority (authority_parts bs) ≡ bs
authority_whole bs = go (cut_at 64 bs) (cut_whole 64 bs)
  where
    text : Option (List ℕ) × List ℕ → List ℕ
    text u = before u.0 (codes "@") ++ (port_of u.1).0 ++ behind (58 ∷ []) (port_of u.1).1

    go : (p : List ℕ × Option (List ℕ)) → p.0 ++ behind (64 ∷ []) p.1 ≡ bs → text (userinfo_of p) ≡ bs
    go (all, None) e = port_whole all ∙ sym (append-nil all) ∙ e
    go (user, Some rest) e = append_assoc (user ++ codes "@") (port_of rest).0 (behind (58 ∷ []) (port_of rest).1) ∙ ap (λ t. user ++ codes "@" ++ t) (port_whole rest) ∙ append_assoc user (codes "@") rest ∙ e
