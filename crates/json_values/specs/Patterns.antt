-- Patterns with a plain meaning of their own, and completions of matches (Validation 6.3.3; ECMA-262, Patterns).
use Rattle.std.specs.Prelude.{◌≡◌, ℕ, ◌&&◌, ◌||◌, ◌==◌, nat_eq, nat_le, nat_lt, not, length, List, [], ◌∷◌, ◌++◌, map, bytes_eq, Bool, true, false, if◌then◌else◌, Option, Some, None, option_map, option_and_then}
use Rattle.std.specs.List.{list_any, list_all, starts_with, join_with_byte, slice_split}
use Rattle.json_values.specs.Texts.{has_no_space}

-- ---- the literal forms

-- `^L`, `^L$`, `^(A|B|..)$` and `^\S*$`, by the texts that they speak of
pub data Literal : Type 0 where
  prefix : List ℕ → Literal
  exact : List ℕ → Literal
  one_of : List (List ℕ) → Literal
  no_white_space : Literal

-- the texts that a literal form matches: `^` and `$` are the ends of the text, `|` is a choice (ECMA-262, Assertion, Disjunction)
abbrev pub means : Literal → List ℕ → Bool
means (prefix l) text = starts_with nat_eq text l
means (exact l) text = bytes_eq text l
means (one_of ls) text = list_any (λ l. bytes_eq text l) ls
means no_white_space text = has_no_space text

-- ---- how a pattern writes them

-- ASCII letters and digits, `_`, `-` and `/` stand for themselves (ECMA-262, PatternCharacter)
abbrev pub is_plain : ℕ → Bool
is_plain c = nat_le 97 c && nat_le c 122 || nat_le 65 c && nat_le c 90 || nat_le 48 c && nat_le c 57 || c == 95 || c == 45 || c == 47

-- `/`, `$`, `.` and `-` stand for themselves behind a backslash (ECMA-262, IdentityEscape)
abbrev pub is_escapable : ℕ → Bool
is_escapable c = c == 47 || c == 36 || c == 46 || c == 45

-- the text that a row of such characters and escapes stands for
unfoldable pub unescaped : List ℕ → Option (List ℕ)
unescaped [] = Some []
unescaped (c ∷ []) = if is_plain c then Some (c ∷ []) else None
unescaped (c ∷ d ∷ rest) =
    if is_plain c then option_map (λ t. c ∷ t) (unescaped (d ∷ rest)) else (if c == 92 && is_escapable d then option_map (λ t. d ∷ t) (unescaped rest) else None)

abbrev pub if_any : {X : Type 0} → List X → Option (List X)
if_any [] = None
if_any (x ∷ xs) = Some (x ∷ xs)

-- the same of one or more
abbrev pub word : List ℕ → Option (List ℕ)
word text = option_and_then if_any (unescaped text)

abbrev pub words : List (List ℕ) → Option (List (List ℕ))
words [] = Some []
words (w ∷ ws) = option_and_then (λ l. option_map (λ ls. l ∷ ls) (words ws)) (word w)

abbrev pub if_several : {X : Type 0} → List X → Option (List X)
if_several [] = None
if_several (x ∷ []) = None
if_several (x ∷ y ∷ xs) = Some (x ∷ y ∷ xs)

-- what stands behind a character at the start of a text
abbrev pub behind : ℕ → List ℕ → Option (List ℕ)
behind c [] = None
behind c (x ∷ xs) = if x == c then Some xs else None

-- what stands before a character at the end of a text
abbrev pub before : ℕ → List ℕ → Option (List ℕ)
before c [] = None
before c (x ∷ []) = if x == c then Some [] else None
before c (x ∷ y ∷ xs) = option_map (λ t. x ∷ t) (before c (y ∷ xs))

abbrev pub or_else : {X : Type 0} → Option X → Option X → Option X
or_else (Some x) other = Some x
or_else None other = other

-- `L`
abbrev pub exact_of : List ℕ → Option Literal
exact_of text = option_map exact (word text)

-- `\S*`
abbrev pub space_of : List ℕ → Option Literal
space_of text = if bytes_eq text (92 ∷ 83 ∷ 42 ∷ []) then Some no_white_space else None

-- `(A|B|..)`, two or more
abbrev pub choice_of : List ℕ → Option Literal
choice_of text =
    option_map one_of (option_and_then if_several (option_and_then (λ inner. words (slice_split (λ b. b == 124) inner)) (option_and_then (before 41) (behind 40 text))))

-- what stands between `^` and `$`
abbrev pub closed_of : List ℕ → Option Literal
closed_of text = or_else (exact_of text) (or_else (space_of text) (choice_of text))

-- what stands behind `^`
abbrev pub opened_of : List ℕ → Option Literal
opened_of text = or_else (option_map prefix (word text)) (option_and_then closed_of (before 36 text))

-- the literal form that a pattern's text is
abbrev pub literal_of : List ℕ → Option Literal
literal_of pattern = option_and_then opened_of (behind 94 pattern)

-- a text as a pattern writes it: `$` and `.` behind a backslash
abbrev pub escaped : List ℕ → List ℕ
escaped [] = []
escaped (c ∷ cs) = if c == 36 || c == 46 then 92 ∷ c ∷ escaped cs else c ∷ escaped cs

-- the pattern of a literal form
abbrev pub pattern_of : Literal → List ℕ
pattern_of (prefix l) = 94 ∷ escaped l
pattern_of (exact l) = 94 ∷ escaped l ++ 36 ∷ []
pattern_of (one_of ls) = 94 ∷ 40 ∷ join_with_byte 124 (map escaped ls) ++ 41 ∷ 36 ∷ []
pattern_of no_white_space = 94 ∷ 92 ∷ 83 ∷ 42 ∷ 36 ∷ []

abbrev pub is_empty : List ℕ → Bool
is_empty [] = true
is_empty (c ∷ cs) = false

abbrev pub is_spelled : List ℕ → Bool
is_spelled l = not (is_empty l) && list_all (λ c. is_plain c || is_escapable c) l

-- the literal forms that have a pattern: of texts that are not empty, over the characters above, and choices of two or more
abbrev pub is_written : Literal → Bool
is_written (prefix l) = is_spelled l
is_written (exact l) = is_spelled l
is_written (one_of ls) = nat_lt 1 (length ls) && list_all is_spelled ls
is_written no_white_space = true

-- ---- matches

abbrev pub literal_or : {X : Type 0} → (Literal → X) → X → Option Literal → X
literal_or f other (Some l) = f l
literal_or f other None = other

-- whether a pattern matches a text somewhere in it: a literal form by its meaning, another as it is read (Validation 6.3.3)
abbrev pub matched : (List ℕ → List ℕ → Bool) → List ℕ → List ℕ → Bool
matched read pattern text = literal_or (λ l. means l text) (read pattern text) (literal_of pattern)

-- what is known of a match: a literal form's meaning, or else the answer of a matcher that finished
abbrev pub known : (List ℕ → List ℕ → Option Bool) → List ℕ → List ℕ → Option Bool
known finished pattern text = literal_or (λ l. Some (means l text)) (finished pattern text) (literal_of pattern)

-- a list of matches, each a pattern and a text, that are read as yes; every other is no
abbrev pub Completion : Type 0
Completion = List (List ℕ × List ℕ)

abbrev pub reads_as : Completion → List ℕ → List ℕ → Bool
reads_as matches pattern text = list_any (λ m. bytes_eq m.0 pattern && bytes_eq m.1 text) matches

-- a completion of the matches at these sites, and of these alone: it reads each as the literal form's meaning, or else as the matcher where that finishes
pub record Completes (finished : List ℕ → List ℕ → Option Bool) (sites : List (List ℕ × List ℕ)) (c : Completion) : Type 0 where
  pub agrees : (pattern text : List ℕ) (answer : Bool) → reads_as sites pattern text ≡ true → known finished pattern text ≡ Some answer → reads_as c pattern text ≡ answer
