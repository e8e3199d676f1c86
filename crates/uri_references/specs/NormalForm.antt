-- The normal form of a URI reference (RFC 3986, section 6.2.2).
use Rattle.std.specs.Prelude.{ℕ, List, [], ◌∷◌, ◌++◌, ◌==◌, ◌+◌, ◌-◌, ◌*◌, map, Bool, true, false, ◌&&◌, if◌then◌else◌, Option, Some, None, option_map}
use Rattle.std.specs.Char.{to_ascii_lowercase, to_ascii_uppercase}
use Rattle.uri_grammar.specs.Texts.{is_digit, is_upper, is_hex}
use Rattle.uri_grammar.specs.Parts.{Parts, split, recompose}
use Rattle.uri_grammar.specs.Addresses.{is_unreserved}
use Rattle.uri_grammar.specs.Grammar.{AuthorityParts, authority_parts, written_authority}
use Rattle.uri_references.specs.Dots.{remove_dots}
use Rattle.uri_references.specs.Resolution.{guarded}

-- the octet that a percent triplet with the digits y and z stands for (section 2.1)
abbrev pub hex_value : ℕ → ℕ
hex_value b = if is_digit b then b - 48 else (if is_upper b then b - 55 else b - 87)

abbrev pub octet : ℕ → ℕ → ℕ
octet y z = 16 * hex_value y + hex_value z

-- sections 6.2.2.2 and 6.2.2.1: a triplet of an unreserved character is that character, any other has digits of upper case
abbrev pub triplet : ℕ → ℕ → List ℕ
triplet y z = if is_unreserved (octet y z) then octet y z ∷ [] else 37 ∷ to_ascii_uppercase y ∷ to_ascii_uppercase z ∷ []

abbrev pub is_triplet : ℕ → ℕ → ℕ → Bool
is_triplet x y z = x == 37 && (is_hex y && is_hex z)

abbrev pub with_triplets : List ℕ → List ℕ
with_triplets [] = []
with_triplets (x ∷ []) = x ∷ []
with_triplets (x ∷ y ∷ []) = x ∷ y ∷ []
with_triplets (x ∷ y ∷ z ∷ rest) = elim (is_triplet x y z) [ true ↦ triplet y z ++ with_triplets rest | false ↦ x ∷ with_triplets (y ∷ z ∷ rest) ]

-- a hexadecimal digit at the front, and the rest
abbrev pub first_digit : List ℕ → Option (ℕ × List ℕ)
first_digit [] = None
first_digit (b ∷ text) = if is_hex b then Some (b, text) else None

-- two of them
abbrev pub two_digits : List ℕ → Option (ℕ × ℕ × List ℕ)
two_digits [] = None
two_digits (y ∷ []) = None
two_digits (y ∷ z ∷ rest) = if is_hex y && is_hex z then Some (y, z, rest) else None

-- section 6.2.2.1: scheme and host are in lower case, but for the digits of triplets, which stay in upper case
abbrev pub lowered : List ℕ → List ℕ
lowered text = map to_ascii_lowercase text

abbrev pub normal_host : List ℕ → List ℕ
normal_host text = with_triplets (lowered (with_triplets text))

-- userinfo and port keep their letters
abbrev pub normal_authority_parts : AuthorityParts → AuthorityParts
normal_authority_parts a = record { userinfo = option_map with_triplets a.userinfo; host = normal_host a.host; port = a.port }

abbrev pub normal_authority : List ℕ → List ℕ
normal_authority text = written_authority (normal_authority_parts (authority_parts text))

-- section 6.2.2.3: in a URI dot segments go; those of a relative reference are part of its meaning
abbrev pub normal_path : Option (List ℕ) → List ℕ → List ℕ
normal_path None path = with_triplets path
normal_path (Some scheme) path = remove_dots (with_triplets path)

unfoldable pub normal : Parts → Parts
normal p = guarded (record {
  scheme = option_map lowered p.scheme;
  authority = option_map normal_authority p.authority;
  path = normal_path p.scheme p.path;
  query = option_map with_triplets p.query;
  fragment = option_map with_triplets p.fragment;
})

-- the normal form of a text
abbrev pub normal_text : List ℕ → List ℕ
normal_text text = recompose (normal (split text))
