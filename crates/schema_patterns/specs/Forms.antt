-- The grammar of the literal forms: which pattern is written for which form (ECMA-262, Patterns).
use Rattle.std.specs.Prelude.{◌≡◌, ℕ, ◌≤◌, List, [], ◌∷◌, ◌++◌, length, true}
use Rattle.std.specs.List.{join_with_byte}
use Rattle.json_values.specs.Patterns.{Literal, prefix, exact, one_of, no_white_space, is_plain, is_escapable}

-- a text, and a way to write it in a pattern: each character by itself or behind a backslash
pub data IsWritten : List ℕ → List ℕ → Type 0 where
  nothing : IsWritten [] []
  bare : (c : ℕ) (p t : List ℕ) → is_plain c ≡ true → IsWritten p t → IsWritten (c ∷ p) (c ∷ t)
  behind_backslash : (c : ℕ) (p t : List ℕ) → is_escapable c ≡ true → IsWritten p t → IsWritten (92 ∷ c ∷ p) (c ∷ t)

-- a word: one or more characters
pub record IsWord (p t : List ℕ) : Type 0 where
  pub written : IsWritten p t
  pub some : 1 ≤ length t

pub data AreWords : List (List ℕ) → List (List ℕ) → Type 0 where
  no_words : AreWords [] []
  and_word : (p t : List ℕ) (ps ts : List (List ℕ)) → IsWord p t → AreWords ps ts → AreWords (p ∷ ps) (t ∷ ts)

-- `^L`, `^L$`, `^(A|B|..)$` of two or more, and `^\S*$`
pub data HasForm : List ℕ → Literal → Type 0 where
  a_prefix : (p t : List ℕ) → IsWord p t → HasForm (94 ∷ p) (prefix t)
  an_exact_text : (p t : List ℕ) → IsWord p t → HasForm (94 ∷ p ++ 36 ∷ []) (exact t)
  a_choice : (ps ts : List (List ℕ)) → AreWords ps ts → 2 ≤ length ts → HasForm (94 ∷ 40 ∷ join_with_byte 124 ps ++ 41 ∷ 36 ∷ []) (one_of ts)
  without_space : HasForm (94 ∷ 92 ∷ 83 ∷ 42 ∷ 36 ∷ []) no_white_space
