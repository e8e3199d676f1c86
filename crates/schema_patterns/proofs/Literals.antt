-- A literal form's own pattern has its form.
use borrow.Author.Tests.{eqb-true, ltb-true}
use Rattle.std.proofs.Common.{◌≡◌, ℕ, ◌<◌, ◌≤◌, List, [], ◌∷◌, map, length, Bool, true, false, not, ◌||◌, ◌==◌, inl, inr, ◌⊎◌, Some, refl, sym, ap, ◌∙◌, arith, true≢false}
use Rattle.std.specs.Cmp.{first_so, second_so}
use Rattle.std.specs.List.{list_all}
use Rattle.std.specs.Prelude.{if◌then◌else◌, nat_lt}
use Rattle.schema_patterns.specs.Forms.{IsWritten, nothing, bare, behind_backslash, IsWord, AreWords, no_words, and_word, HasForm, a_prefix, an_exact_text, a_choice, without_space}
use Rattle.json_values.specs.Patterns.{Literal, prefix, exact, one_of, no_white_space, is_plain, is_escapable, literal_of, escaped, pattern_of, is_empty, is_spelled, is_written}
use Rattle.schema_patterns.proofs.Grammar.{form_read}

abbrev is_letter : ℕ → Bool
is_letter c = is_plain c || is_escapable c

one_or : (a b : Bool) → (a || b) ≡ true → (a ≡ true) ⊎ (b ≡ true)
one_or true b h = inl refl
one_or false b h = inr h

right_so : (a b : Bool) → b ≡ true → (a || b) ≡ true
right_so true b h = refl
right_so false b h = h

-- what stands behind a backslash may
dollar_or_dot : (c : ℕ) → (c == 36 || c == 46) ≡ true → is_escapable c ≡ true
dollar_or_dot c h =
    elim (one_or (c == 36) (c == 46) h) [
      | inl a ↦ (let s : c ≡ 36 = eqb-true c 36 a in rw s refl)
      | inr b ↦ (let s : c ≡ 46 = eqb-true c 46 b in rw s refl)
    ]

-- and what stands alone is plain
plain_alone : (c : ℕ) → is_letter c ≡ true → (c == 36 || c == 46) ≡ false → is_plain c ≡ true
plain_alone c h none =
    elim (one_or (is_plain c) (is_escapable c) h) [
      | inl a ↦ a
      | inr b ↦ (elim (one_or (c == 47 || c == 36 || c == 46) (c == 45) b) [
        | inl d ↦ (elim (one_or (c == 47 || c == 36) (c == 46) d) [
          | inl e ↦ (elim (one_or (c == 47) (c == 36) e) [
            | inl f ↦ (let s : c ≡ 47 = eqb-true c 47 f in rw s refl)
            | inr f ↦ absurd (true≢false (sym (ap (λ v. v || c == 46) f) ∙ none))
          ])
          | inr e ↦ absurd (true≢false (sym (right_so (c == 36) (c == 46) e) ∙ none))
        ])
        | inr d ↦ (let s : c ≡ 45 = eqb-true c 45 d in rw s refl)
      ])
    ]

written_first : (b : Bool) (c : ℕ) (l : List ℕ) → (c == 36 || c == 46) ≡ b → is_letter c ≡ true → IsWritten (escaped l) l
    → IsWritten (if b then 92 ∷ c ∷ escaped l else c ∷ escaped l) (c ∷ l)
written_first true c l is h w = behind_backslash c (escaped l) l (dollar_or_dot c is) w
written_first false c l is h w = bare c (escaped l) l (plain_alone c h is) w

written : (l : List ℕ) → list_all is_letter l ≡ true → IsWritten (escaped l) l
written [] h = nothing
written (c ∷ l) h = written_first (c == 36 || c == 46) c l refl (first_so (is_letter c) (list_all is_letter l) h) (written l (second_so (is_letter c) (list_all is_letter l) h))

some : (l : List ℕ) → not (is_empty l) ≡ true → 1 ≤ length l
some [] h = cc
some (c ∷ l) h = omega arith

a_word : (l : List ℕ) → is_spelled l ≡ true → IsWord (escaped l) l
a_word l h = record { written = written l (second_so (not (is_empty l)) (list_all is_letter l) h); some = some l (first_so (not (is_empty l)) (list_all is_letter l) h) }

all_words : (ls : List (List ℕ)) → list_all is_spelled ls ≡ true → AreWords (map escaped ls) ls
all_words [] h = no_words
all_words (l ∷ ls) h = and_word (escaped l) l (map escaped ls) ls (a_word l (first_so (is_spelled l) (list_all is_spelled ls) h)) (all_words ls (second_so (is_spelled l) (list_all is_spelled ls) h))

own_form : (l : Literal) → is_written l ≡ true → HasForm (pattern_of l) l
own_form (prefix l) h = a_prefix (escaped l) l (a_word l h)
own_form (exact l) h = an_exact_text (escaped l) l (a_word l h)
own_form (one_of ls) h =
    let more : 1 < length ls = ltb-true 1 (length ls) (first_so (nat_lt 1 (length ls)) (list_all is_spelled ls) h) in
    a_choice (map escaped ls) ls (all_words ls (second_so (nat_lt 1 (length ls)) (list_all is_spelled ls) h)) (omega arith)
own_form no_white_space h = without_space

pub literal_back : (l : Literal) → is_written l ≡ true → literal_of (pattern_of l) ≡ Some l
literal_back l h = form_read (pattern_of l) l (own_form l h)
