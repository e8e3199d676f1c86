-- URI fragments (RFC 3986, sections 2 and 3.5).
use Rattle.std.specs.Prelude.{ℕ, zero, suc, List, [], ◌∷◌, ◌==◌, ◌&&◌, ◌||◌, Bool, if◌then◌else◌, codes}
use Rattle.std.specs.Char.{is_ascii_alphanumeric, is_digit}
use Rattle.std.specs.List.{flat_map, list_any}
use Rattle.percent_encoding.specs.Percent.{percent_sign, percent_encode_byte}

abbrev pub is_among : List ℕ → ℕ → Bool
is_among bytes b = list_any (λ c. c == b) bytes

-- section 2.3
abbrev pub is_unreserved : ℕ → Bool
is_unreserved b = is_ascii_alphanumeric b || is_among (codes "-._~") b

-- section 2.2
abbrev pub is_sub_delim : ℕ → Bool
is_sub_delim b = is_among (codes "!$&'()*+,;=") b

-- the bytes that stand for themselves in a fragment: pchar without triplets, `/` and `?`
abbrev pub may_stand : ℕ → Bool
may_stand b = is_unreserved b || is_sub_delim b || is_among (codes ":@/?") b

-- each byte may stand, or begins a triplet, of which some digits are still due
abbrev pub is_fragment_from : ℕ → List ℕ → Bool
is_fragment_from due [] = due == 0
is_fragment_from zero (b ∷ text) = if b == percent_sign then is_fragment_from 2 text else may_stand b && is_fragment_from 0 text
is_fragment_from (suc due) (b ∷ text) = is_digit b 16 && is_fragment_from due text

-- a fragment by the grammar of section 3.5
abbrev pub is_fragment : List ℕ → Bool
is_fragment text = is_fragment_from 0 text

-- the fragment that a text is written as: each byte that may not stand as an upper-case triplet
unfoldable pub fragment_text : List ℕ → List ℕ
fragment_text text = flat_map (λ b. if may_stand b then b ∷ [] else percent_encode_byte b) text
