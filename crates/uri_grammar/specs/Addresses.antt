-- IP addresses in a host (RFC 3986, section 3.2.2).
use Rattle.std.specs.Prelude.{ℕ, zero, suc, List, [], ◌∷◌, ◌==◌, ◌+◌, length, nat_le, Bool, false, not, ◌&&◌, ◌||◌, if◌then◌else◌, Option, Some, None, codes}
use Rattle.std.specs.List.{list_all}
use Rattle.uri_grammar.specs.Texts.{cut_at, pieces, is_empty, has, is_between, is_digit, is_letter, is_hex}

-- dec-octet: 0 to 255 without a leading zero
abbrev pub is_dec_octet : List ℕ → Bool
is_dec_octet [] = false
is_dec_octet (a ∷ []) = is_digit a
is_dec_octet (a ∷ b ∷ []) = is_between 49 57 a && is_digit b
is_dec_octet (a ∷ b ∷ c ∷ []) =
    (a == 49 && is_digit b && is_digit c)
    || (a == 50 && is_between 48 52 b && is_digit c)
    || (a == 50 && b == 53 && is_between 48 53 c)
is_dec_octet (a ∷ b ∷ c ∷ d ∷ rest) = false

-- IPv4address: four octets between dots
abbrev pub is_ipv4_address : List ℕ → Bool
is_ipv4_address text = list_all is_dec_octet (pieces 46 text) && length (pieces 46 text) == 4

-- h16: one to four hexadecimal digits
abbrev pub is_h16 : List ℕ → Bool
is_h16 text = not (is_empty text) && nat_le (length text) 4 && list_all is_hex text

-- ls32 = ( h16 ":" h16 ) / IPv4address, by the pieces between colons
abbrev pub is_ls32 : List (List ℕ) → Bool
is_ls32 [] = false
is_ls32 (p ∷ []) = is_ipv4_address p
is_ls32 (p ∷ q ∷ []) = is_h16 p && is_h16 q
is_ls32 (p ∷ q ∷ r ∷ rest) = false

-- n( h16 ":" ) ls32
abbrev pub with_ls32 : ℕ → List (List ℕ) → Bool
with_ls32 zero ps = is_ls32 ps
with_ls32 (suc n) [] = false
with_ls32 (suc n) (p ∷ ps) = is_h16 p && with_ls32 n ps

-- [ *n( h16 ":" ) h16 ]
abbrev pub up_to : ℕ → List ℕ → Bool
up_to n text = is_empty text || (list_all is_h16 (pieces 58 text) && nat_le (length (pieces 58 text)) (n + 1))

-- what stands before the first `::`, and after it where there is one (no group ends with a colon, so an address has no other cut)
abbrev pub with_first : ℕ → List ℕ × Option (List ℕ) → List ℕ × Option (List ℕ)
with_first x (text, rest) = (x ∷ text, rest)

abbrev pub cut_at_colons : List ℕ → List ℕ × Option (List ℕ)
cut_at_colons [] = ([], None)
cut_at_colons (x ∷ []) = (x ∷ [], None)
cut_at_colons (x ∷ y ∷ rest) = if x == 58 && y == 58 then ([], Some rest) else with_first x (cut_at_colons (y ∷ rest))

-- IPv6address: the nine forms of the grammar, in its order
--                              6( h16 ":" ) ls32
--   /                     "::" 5( h16 ":" ) ls32
--   / [             h16 ] "::" 4( h16 ":" ) ls32
--   / [ *1( h16 ":" ) h16 ] "::" 3( h16 ":" ) ls32, and so on up to
--   / [ *6( h16 ":" ) h16 ] "::"
abbrev pub is_ipv6_cut : List ℕ × Option (List ℕ) → Bool
is_ipv6_cut (all, None) = with_ls32 6 (pieces 58 all)
is_ipv6_cut (left, Some right) =
    (is_empty left && with_ls32 5 (pieces 58 right))
    || (up_to 0 left && with_ls32 4 (pieces 58 right))
    || (up_to 1 left && with_ls32 3 (pieces 58 right))
    || (up_to 2 left && with_ls32 2 (pieces 58 right))
    || (up_to 3 left && with_ls32 1 (pieces 58 right))
    || (up_to 4 left && with_ls32 0 (pieces 58 right))
    || (up_to 5 left && is_h16 right)
    || (up_to 6 left && is_empty right)

unfoldable pub is_ipv6_address : List ℕ → Bool
is_ipv6_address text = is_ipv6_cut (cut_at_colons text)

-- unreserved and sub-delims (sections 2.3 and 2.2)
abbrev pub is_unreserved : ℕ → Bool
is_unreserved b = is_letter b || is_digit b || has b (codes "-._~")

abbrev pub is_sub_delim : ℕ → Bool
is_sub_delim b = has b (codes "!$&'()*+,;=")

-- IPvFuture: "v" 1*HEXDIG "." 1*( unreserved / sub-delims / ":" ), the "v" of either case
abbrev pub is_version : List ℕ → Bool
is_version [] = false
is_version (v ∷ digits) = (v == 118 || v == 86) && not (is_empty digits) && list_all is_hex digits

abbrev pub is_future_byte : ℕ → Bool
is_future_byte b = is_unreserved b || is_sub_delim b || b == 58

abbrev pub is_future_cut : List ℕ × Option (List ℕ) → Bool
is_future_cut (all, None) = false
is_future_cut (version, Some text) = is_version version && not (is_empty text) && list_all is_future_byte text

abbrev pub is_ip_future : List ℕ → Bool
is_ip_future text = is_future_cut (cut_at 46 text)

-- IP-literal: either of them in brackets
abbrev pub is_closed : List ℕ × Option (List ℕ) → Bool
is_closed (inner, None) = false
is_closed (inner, Some rest) = is_empty rest && (is_ipv6_address inner || is_ip_future inner)

abbrev pub is_ip_literal : List ℕ → Bool
is_ip_literal [] = false
is_ip_literal (b ∷ text) = b == 91 && is_closed (cut_at 93 text)
