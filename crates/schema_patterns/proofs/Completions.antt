-- Completions read what is known as it is, and all else in any way.
use Rattle.std.proofs.Common.{◌≡◌, ℕ, List, [], ◌∷◌, Bool, true, false, cond, ◌&&◌, ◌||◌, bytes_eq, Option, Some, None, unwrap_or, refl, sym, ap, ◌∙◌}
use Rattle.std.proofs.lemmas.Slice.Eq.{bytes_eq-Decides}
use Rattle.std.specs.Cmp.{first_so, second_so}
use Rattle.std.specs.List.{filter}
use Rattle.json_values.specs.Patterns.{Literal, means, literal_of, literal_or, matched, known, Completion, reads_as, Completes}

by_literal : (o : Option Literal) (read : Bool) (finished : Option Bool) (text : List ℕ) (answer : Bool)
    → (literal_or (λ l. Some (means l text)) finished o ≡ Some answer → read ≡ answer)
    → literal_or (λ l. Some (means l text)) finished o ≡ Some answer → literal_or (λ l. means l text) read o ≡ answer
by_literal None read finished text answer f h = f h
by_literal (Some l) read finished text answer f h = cc

module _ (finished : List ℕ → List ℕ → Option Bool) (sites : List (List ℕ × List ℕ)) where
  pub known_kept : (c : Completion) → Completes finished sites c → (pattern text : List ℕ) (answer : Bool)
      → reads_as sites pattern text ≡ true → known finished pattern text ≡ Some answer → matched (reads_as c) pattern text ≡ answer
  known_kept c completes pattern text answer site h =
      by_literal (literal_of pattern) (reads_as c pattern text) (finished pattern text) text answer (completes.agrees pattern text answer site) h

and_false : (b : Bool) → (b && false) ≡ false
and_false true = refl
and_false false = refl

module _ (q : List ℕ → List ℕ → Bool) (pattern text : List ℕ) where
  abbrev chosen : List (List ℕ × List ℕ) → List (List ℕ × List ℕ)
  chosen = filter (λ m. q m.0 m.1)

  abbrev is_it : List ℕ × List ℕ → Bool
  is_it m = bytes_eq m.0 pattern && bytes_eq m.1 text

  its_answer : (m : List ℕ × List ℕ) → is_it m ≡ true → q m.0 m.1 ≡ q pattern text
  its_answer m h =
      let a : m.0 ≡ pattern = (bytes_eq-Decides m.0 pattern).0 (first_so (bytes_eq m.0 pattern) (bytes_eq m.1 text) h) in
      let b : m.1 ≡ text = (bytes_eq-Decides m.1 text).0 (second_so (bytes_eq m.0 pattern) (bytes_eq m.1 text) h) in
      ap (λ p. q p m.1) a ∙ ap (q pattern) b

  reads_first : (e b : Bool) (m : List ℕ × List ℕ) (ms : List (List ℕ × List ℕ)) → is_it m ≡ e → q m.0 m.1 ≡ b
      → reads_as (chosen ms) pattern text ≡ (reads_as ms pattern text && q pattern text)
      → reads_as (cond b (m ∷ chosen ms) (chosen ms)) pattern text ≡ ((e || reads_as ms pattern text) && q pattern text)
  reads_first true true m ms is given later = rw is (sym (sym (its_answer m is) ∙ given))
  reads_first true false m ms is given later =
      let no : q pattern text ≡ false = sym (its_answer m is) ∙ given in
      later ∙ rw no (and_false (reads_as ms pattern text))
  reads_first false true m ms is given later = rw is later
  reads_first false false m ms is given later = later

  reads_chosen : (ms : List (List ℕ × List ℕ)) → reads_as (chosen ms) pattern text ≡ (reads_as ms pattern text && q pattern text)
  reads_chosen [] = refl
  reads_chosen (m ∷ ms) = reads_first (is_it m) (q m.0 m.1) m ms refl refl (reads_chosen ms)

module _ (finished : List ℕ → List ℕ → Option Bool) (sites : List (List ℕ × List ℕ)) (choice : List ℕ → List ℕ → Bool) where
  abbrev answered : List ℕ → List ℕ → Bool
  answered pattern text = unwrap_or (known finished pattern text) (choice pattern text)

  pub some_completion : (c : Completion) × Completes finished sites c
      × ((pattern text : List ℕ) → reads_as sites pattern text ≡ true → known finished pattern text ≡ None → reads_as c pattern text ≡ choice pattern text)
  some_completion = (
    chosen answered [] [] sites,
    record { agrees = λ pattern text answer site h. reads_chosen answered pattern text sites ∙ rw (site, h) refl },
    λ pattern text site h. reads_chosen answered pattern text sites ∙ rw (site, h) refl,
  )
