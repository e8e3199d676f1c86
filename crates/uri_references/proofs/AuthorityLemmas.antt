-- The normal form of an authority.
use Rattle.std.proofs.Common.{◌≡◌, ◌==◌, ◌∙◌, ◌&&◌, ◌||◌, List, ℕ, Bool, true, false, ap, refl, sym, Option, Some, None, option_map, inl, inr, arith}
use Rattle.std.proofs.lemmas.Grind.{common_steps}
use Rattle.std.specs.Char.{to_ascii_lowercase}
use Rattle.uri_grammar.specs.Texts.{has, all_or_none}
use Rattle.uri_grammar.specs.Addresses.{is_unreserved, is_sub_delim, is_ip_literal, is_ipv4_address}
use Rattle.uri_grammar.specs.Grammar.{AuthorityParts, is_userinfo, is_reg_name, is_host, is_port, authority_parts, is_authority_of, is_authority, written_authority}
use Rattle.uri_grammar.proofs.AddressLacks.{literal_lacks, outside_percent}
use Rattle.uri_grammar.proofs.Authorities.{authority_back}
use Rattle.uri_references.specs.NormalForm.{with_triplets, lowered, normal_host, normal_authority_parts, normal_authority}
use Rattle.uri_references.proofs.Bools.{and_left, and_right, and_both, or_either, or_left, or_right}
use Rattle.uri_references.proofs.LowerLemmas.{lower-literal, ipv4-name}
use Rattle.uri_references.proofs.TripletSteps.{bytes-alone}
use Rattle.uri_references.proofs.SettledLemmas.{with-again, with-encoded, host-again, host-encoded, lowered-again}

-- ---- hosts

is_name_byte : ℕ → Bool
is_name_byte b = is_unreserved b || is_sub_delim b

name-lower : (b : ℕ) → (is_unreserved b || is_sub_delim b) ≡ true → (is_unreserved (to_ascii_lowercase b) || is_sub_delim (to_ascii_lowercase b)) ≡ true
name-lower b e = grind (arith, common_steps)

name-valid : (t : List ℕ) → is_reg_name t ≡ true → is_reg_name (normal_host t) ≡ true
name-valid t h = host-encoded (λ b. is_unreserved b || is_sub_delim b) (λ b e. or_left (is_unreserved b) (is_sub_delim b) e) name-lower t h

name-again : (t : List ℕ) → is_reg_name t ≡ true → normal_host (normal_host t) ≡ normal_host t
name-again t h = host-again (λ b. is_unreserved b || is_sub_delim b) t h

literal_lower : (t : List ℕ) → is_ip_literal t ≡ true → is_ip_literal (lowered t) ≡ true
literal_lower t h = lower-literal t ∙ h

literal_percent : (t : List ℕ) → is_ip_literal t ≡ true → has 37 t ≡ false
literal_percent t h = literal_lacks 37 outside_percent t h

-- an address in brackets is lowered, and that is all
literal-host : (t : List ℕ) → is_ip_literal t ≡ true → normal_host t ≡ lowered t
literal-host t h =
    ap (λ x. with_triplets (lowered x)) (bytes-alone t (literal_percent t h))
    ∙ bytes-alone (lowered t) (literal_percent (lowered t) (literal_lower t h))

pub host-valid : (t : List ℕ) → is_host t ≡ true → is_host (normal_host t) ≡ true
host-valid t h = elim (or_either (is_ip_literal t || is_ipv4_address t) (is_reg_name t) h) [
  | inl e ↦ elim (or_either (is_ip_literal t) (is_ipv4_address t) e) [
    | inl literal ↦ or_left _ (is_reg_name (normal_host t)) (or_left (is_ip_literal (normal_host t)) _ (ap is_ip_literal (literal-host t literal) ∙ literal_lower t literal))
    | inr four ↦ or_right _ (is_reg_name (normal_host t)) (name-valid t (ipv4-name t four))
  ]
  | inr name ↦ or_right _ (is_reg_name (normal_host t)) (name-valid t name)
]

pub normal-host-again : (t : List ℕ) → is_host t ≡ true → normal_host (normal_host t) ≡ normal_host t
normal-host-again t h = elim (or_either (is_ip_literal t || is_ipv4_address t) (is_reg_name t) h) [
  | inl e ↦ elim (or_either (is_ip_literal t) (is_ipv4_address t) e) [
    | inl literal ↦ ap normal_host (literal-host t literal) ∙ literal-host (lowered t) (literal_lower t literal) ∙ lowered-again t ∙ sym (literal-host t literal)
    | inr four ↦ name-again t (ipv4-name t four)
  ]
  | inr name ↦ name-again t name
]

-- ---- the whole authority

user-valid : (u : Option (List ℕ)) → all_or_none is_userinfo u ≡ true → all_or_none is_userinfo (option_map with_triplets u) ≡ true
user-valid None h = refl
user-valid (Some t) h =
    with-encoded (λ b. is_unreserved b || is_sub_delim b || b == 58)
    (λ b e. or_left (is_unreserved b || is_sub_delim b) (b == 58) (or_left (is_unreserved b) (is_sub_delim b) e)) t h

user-again : (u : Option (List ℕ)) → all_or_none is_userinfo u ≡ true → option_map with_triplets (option_map with_triplets u) ≡ option_map with_triplets u
user-again None h = refl
user-again (Some t) h = ap (λ x. Some x) (with-again (λ b. is_unreserved b || is_sub_delim b || b == 58) t h)

parts-valid : (a : AuthorityParts) → is_authority_of a ≡ true → is_authority_of (normal_authority_parts a) ≡ true
parts-valid a h =
    let h1 = and_left (all_or_none is_userinfo a.userinfo && is_host a.host) _ h in
    and_both _ (all_or_none is_port a.port)
    (and_both _ _ (user-valid a.userinfo (and_left (all_or_none is_userinfo a.userinfo) _ h1)) (host-valid a.host (and_right (all_or_none is_userinfo a.userinfo) _ h1)))
    (and_right (all_or_none is_userinfo a.userinfo && is_host a.host) _ h)

parts : Option (List ℕ) → List ℕ → Option (List ℕ) → AuthorityParts
parts u t p = record { userinfo = u; host = t; port = p }

parts-again : (a : AuthorityParts) → is_authority_of a ≡ true → normal_authority_parts (normal_authority_parts a) ≡ normal_authority_parts a
unfolding parts
parts-again a h =
    let h1 = and_left (all_or_none is_userinfo a.userinfo && is_host a.host) _ h in
    ap (λ u. parts u (normal_host (normal_host a.host)) a.port) (user-again a.userinfo (and_left (all_or_none is_userinfo a.userinfo) _ h1))
    ∙ ap (λ t. parts (option_map with_triplets a.userinfo) t a.port) (normal-host-again a.host (and_right (all_or_none is_userinfo a.userinfo) _ h1))

pub authority-valid : (t : List ℕ) → is_authority t ≡ true → is_authority (normal_authority t) ≡ true
authority-valid t h =
    let a = authority_parts t in
    ap is_authority_of (authority_back (normal_authority_parts a) (parts-valid a h)) ∙ parts-valid a h

pub authority-again : (t : List ℕ) → is_authority t ≡ true → normal_authority (normal_authority t) ≡ normal_authority t
authority-again t h =
    let a = authority_parts t in
    ap (λ b. written_authority (normal_authority_parts b)) (authority_back (normal_authority_parts a) (parts-valid a h))
    ∙ ap written_authority (parts-again a h)
