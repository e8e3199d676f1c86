-- Cutting texts at a byte, and classes of bytes. A text is the list of its bytes.
use Rattle.std.specs.Prelude.{ℕ, List, [], ◌∷◌, ◌++◌, ◌==◌, length, nat_le, Bool, true, false, ◌&&◌, ◌||◌, if◌then◌else◌, Option, Some, None}
use Rattle.std.specs.List.{list_any, position_or_len, before_first, after_first, before_last, after_last, slice_split}

-- what stands before the first byte c, and after it where there is one
abbrev pub cut_at : ℕ → List ℕ → List ℕ × Option (List ℕ)
cut_at c text =
    if position_or_len (λ b. b == c) text == length text
    then (text, None)
    else (before_first (λ b. b == c) text, Some (after_first (λ b. b == c) text))

-- a part of a text with the mark that stands before it, where there is one
abbrev pub behind : List ℕ → Option (List ℕ) → List ℕ
behind mark None = []
behind mark (Some text) = mark ++ text

-- the texts between the bytes c
abbrev pub pieces : ℕ → List ℕ → List (List ℕ)
pieces c text = slice_split (λ b. b == c) text

abbrev pub is_empty : {X : Type 0} → List X → Bool
is_empty [] = true
is_empty (x ∷ xs) = false

abbrev pub is_none : {X : Type 0} → Option X → Bool
is_none None = true
is_none (Some x) = false

abbrev pub all_or_none : (List ℕ → Bool) → Option (List ℕ) → Bool
all_or_none test None = true
all_or_none test (Some text) = test text

abbrev pub has : ℕ → List ℕ → Bool
has c text = list_any (λ b. b == c) text

-- what stands before the last byte c, and after it where there is one
abbrev pub cut_at_last : ℕ → List ℕ → List ℕ × Option (List ℕ)
cut_at_last c text = if has c text then (before_last (λ b. b == c) text, Some (after_last (λ b. b == c) text)) else (text, None)

abbrev pub is_between : ℕ → ℕ → ℕ → Bool
is_between low high b = nat_le low b && nat_le b high

-- DIGIT, ALPHA and HEXDIG (RFC 2234, which RFC 3986 names in section 1.3; hexadecimal digits of either case)
abbrev pub is_digit : ℕ → Bool
is_digit b = is_between 48 57 b

abbrev pub is_upper : ℕ → Bool
is_upper b = is_between 65 90 b

abbrev pub is_letter : ℕ → Bool
is_letter b = is_upper b || is_between 97 122 b

abbrev pub is_hex : ℕ → Bool
is_hex b = is_digit b || is_between 65 70 b || is_between 97 102 b
