-- IPv6 addresses by the number of their groups of 16 bits, which says the same as the nine forms of the grammar.
use Rattle.std.specs.Prelude.{ℕ, List, [], ◌∷◌, ◌==◌, ◌+◌, nat_le, Bool, true, false, ◌&&◌, if◌then◌else◌, Option, Some, None, option_map}
use Rattle.uri_grammar.specs.Texts.{pieces, is_empty}
use Rattle.uri_grammar.specs.Addresses.{is_h16, is_ipv4_address}

-- how many groups of 16 bits stand between colons: an IPv4 address, where one may stand at the end, counts for two (ls32)
abbrev pub groups : Bool → List (List ℕ) → Option ℕ
groups ends [] = None
groups ends (p ∷ []) = if is_h16 p then Some 1 else (if ends && is_ipv4_address p then Some 2 else None)
groups ends (p ∷ q ∷ rest) = if is_h16 p then option_map (λ n. 1 + n) (groups ends (q ∷ rest)) else None

-- beside `::` there may be none
abbrev pub groups_beside : Bool → List ℕ → Option ℕ
groups_beside ends text = if is_empty text then Some 0 else groups ends (pieces 58 text)

abbrev pub is_count : (ℕ → Bool) → Option ℕ → Bool
is_count test None = false
is_count test (Some n) = test n

-- eight groups, or at most seven round one `::`
abbrev pub counts : List ℕ × Option (List ℕ) → Bool
counts (all, None) = is_count (λ n. n == 8) (groups true (pieces 58 all))
counts (left, Some right) = is_count (λ n. is_count (λ m. nat_le (n + m) 7) (groups_beside true right)) (groups_beside false left)
