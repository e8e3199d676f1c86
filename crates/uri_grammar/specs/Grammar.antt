-- The grammar of RFC 3986 (appendix A): which components make a URI reference.
use Rattle.std.specs.Prelude.{ℕ, zero, suc, List, [], ◌∷◌, ◌++◌, ◌==◌, Bool, false, not, ◌&&◌, ◌||◌, if◌then◌else◌, Option, Some, None, codes}
use Rattle.std.specs.List.{list_all}
use Rattle.uri_grammar.specs.Texts.{cut_at, cut_at_last, is_empty, is_none, all_or_none, has, is_digit, is_letter, is_hex}
use Rattle.uri_grammar.specs.Addresses.{is_unreserved, is_sub_delim, is_ip_literal, is_ipv4_address}
use Rattle.uri_grammar.specs.Parts.{Parts, split, after_slashes, before, behind}

-- each byte is allowed or begins a percent triplet (section 2.1), of which `due` hexadecimal digits are still to come
abbrev pub fits : (ℕ → Bool) → ℕ → ℕ → Bool
fits allowed zero b = allowed b || b == 37
fits allowed (suc due) b = is_hex b

abbrev pub due_after : ℕ → ℕ → ℕ
due_after zero b = if b == 37 then 2 else 0
due_after (suc due) b = due

abbrev pub is_encoded : (ℕ → Bool) → ℕ → List ℕ → Bool
is_encoded allowed due [] = due == 0
is_encoded allowed due (b ∷ text) = fits allowed due b && is_encoded allowed (due_after due b) text

-- the part of pchar (section 3.3) that is one byte
abbrev pub is_pchar : ℕ → Bool
is_pchar b = is_unreserved b || is_sub_delim b || has b (codes ":@")

-- scheme (section 3.1)
abbrev pub is_scheme_byte : ℕ → Bool
is_scheme_byte b = is_letter b || is_digit b || has b (codes "+-.")

abbrev pub is_scheme : List ℕ → Bool
is_scheme [] = false
is_scheme (b ∷ text) = is_letter b && list_all is_scheme_byte text

-- userinfo (section 3.2.1)
abbrev pub is_userinfo : List ℕ → Bool
is_userinfo text = is_encoded (λ b. is_unreserved b || is_sub_delim b || b == 58) 0 text

-- reg-name, and host: an address in brackets, one of four numbers, or a name (section 3.2.2)
abbrev pub is_reg_name : List ℕ → Bool
is_reg_name text = is_encoded (λ b. is_unreserved b || is_sub_delim b) 0 text

abbrev pub is_host : List ℕ → Bool
is_host text = is_ip_literal text || is_ipv4_address text || is_reg_name text

-- port (section 3.2.3)
abbrev pub is_port : List ℕ → Bool
is_port text = list_all is_digit text

-- authority = [ userinfo "@" ] host [ ":" port ] (section 3.2)
pub record AuthorityParts : Type 0 where
  pub userinfo : Option (List ℕ)
  pub host : List ℕ
  pub port : Option (List ℕ)

-- the userinfo stands before the first `@`, and the host behind it
abbrev pub userinfo_of : List ℕ × Option (List ℕ) → Option (List ℕ) × List ℕ
userinfo_of (all, None) = (None, all)
userinfo_of (user, Some rest) = (Some user, rest)

-- the port stands behind the last colon, where that colon is not in brackets
abbrev pub port_in : List ℕ → List ℕ × Option (List ℕ) → List ℕ × Option (List ℕ)
port_in text (all, None) = (text, None)
port_in text (host, Some port) = if has 93 port then (text, None) else (host, Some port)

abbrev pub port_of : List ℕ → List ℕ × Option (List ℕ)
port_of text = port_in text (cut_at_last 58 text)

abbrev pub authority_parts : List ℕ → AuthorityParts
authority_parts text =
    let u = userinfo_of (cut_at 64 text) in
    let h = port_of u.1 in
    record { userinfo = u.0; host = h.0; port = h.1 }

-- the text of these parts
abbrev pub written_authority : AuthorityParts → List ℕ
written_authority a = before a.userinfo (codes "@") ++ a.host ++ behind (codes ":") a.port

abbrev pub is_authority_of : AuthorityParts → Bool
is_authority_of a = all_or_none is_userinfo a.userinfo && is_host a.host && all_or_none is_port a.port

abbrev pub is_authority : List ℕ → Bool
is_authority text = is_authority_of (authority_parts text)

-- segments, with the slashes between them (section 3.3)
abbrev pub is_path : List ℕ → Bool
is_path text = is_encoded (λ b. is_pchar b || b == 47) 0 text

-- query and fragment (sections 3.4 and 3.5)
abbrev pub is_query : List ℕ → Bool
is_query text = is_encoded (λ b. is_pchar b || has b (codes "/?")) 0 text

abbrev pub is_fragment : List ℕ → Bool
is_fragment text = is_encoded (λ b. is_pchar b || has b (codes "/?")) 0 text

-- where a path may stand (section 3.3): behind an authority it is empty or begins with a slash (path-abempty), without one it
-- does not begin with two (path-absolute), and without a scheme too it has no colon before its first slash (path-noscheme)
abbrev pub begins_slashed : List ℕ → Bool
begins_slashed [] = false
begins_slashed (b ∷ text) = b == 47

abbrev pub begins_doubly : List ℕ → Bool
begins_doubly text = not (is_none (after_slashes text))

abbrev pub stands_behind : Option (List ℕ) → List ℕ → Bool
stands_behind None path = not (begins_doubly path)
stands_behind (Some authority) path = is_empty path || begins_slashed path

abbrev pub lacks_colon : List ℕ → Bool
lacks_colon path = not (has 58 (cut_at 47 path).0)

abbrev pub is_placed : Parts → Bool
is_placed p =
    stands_behind p.authority p.path
    && (not (is_none p.scheme) || not (is_none p.authority) || lacks_colon p.path)

-- URI-reference (section 4.1)
unfoldable pub is_reference : Parts → Bool
is_reference p =
    all_or_none is_scheme p.scheme
    && all_or_none is_authority p.authority
    && is_path p.path
    && all_or_none is_query p.query
    && all_or_none is_fragment p.fragment
    && is_placed p

-- URI (section 3): a reference with a scheme
abbrev pub is_uri : Parts → Bool
is_uri p = is_reference p && not (is_none p.scheme)

-- the components of a text that is a URI reference
unfoldable pub parse : List ℕ → Option Parts
parse text = let p = split text in if is_reference p then Some p else None
