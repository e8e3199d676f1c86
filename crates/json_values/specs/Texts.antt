-- Lengths and counts (Validation 6.3, 6.4, 6.5), and ECMA-262's white space.
use Rattle.std.specs.Prelude.{ℕ, ◌&&◌, ◌||◌, ◌==◌, List, length, Bool, not, nat_le}
use Rattle.std.specs.List.{list_any}
use Rattle.std.specs.Str.{chars}
use Rattle.serde_json.specs.Data.{Items, Members}
use Rattle.serde_json.specs.Events.{items_len, members_len}

-- the length of a text: its number of Unicode code points (Validation 6.3.1; RFC 8259 section 7)
abbrev pub code_points : List ℕ → ℕ
code_points text = length (chars text)

-- the number of items of a list (Validation 6.4.1)
abbrev pub count_items : Items → ℕ
count_items ds = items_len ds

-- the number of members of an object (Validation 6.5.1)
abbrev pub count_members : Members → ℕ
count_members ms = members_len ms

abbrev is_within : ℕ → ℕ → ℕ → Bool
is_within low high c = nat_le low c && nat_le c high

-- what `\s` matches: WhiteSpace and LineTerminator (ECMA-262, CharacterClassEscape), by code point
abbrev pub is_ecma_space : ℕ → Bool
is_ecma_space c =
    is_within 0x0009 0x000d c || c == 0x0020 || c == 0x00a0 || c == 0x1680 || is_within 0x2000 0x200a c
    || is_within 0x2028 0x2029 c || c == 0x202f || c == 0x205f || c == 0x3000 || c == 0xfeff

-- no code point of a text is white space (ECMA-262, CharacterClassEscape `\S`)
abbrev pub has_no_space : List ℕ → Bool
has_no_space text = not (list_any is_ecma_space (chars text))
