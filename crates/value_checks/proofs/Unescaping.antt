-- A literal read byte by byte.
use borrow.Author.Tests.{eqb-true}
use Rattle.std.proofs.Common.{◌≡◌, ℕ, length, ◌<◌, List, [], ◌∷◌, ◌++◌, Bool, true, false, ◌==◌, Option, Some, None, option_map, option_and_then, refl, sym, ap, ◌∙◌, append_assoc, append-nil, arith}
use Rattle.std.proofs.lemmas.Bool.Decides.{nat_tests}
use Rattle.std.specs.Prelude.{if◌then◌else◌}
use Rattle.json_values.specs.Patterns.{is_plain, is_escapable, unescaped, if_any, word}
use Rattle.json_values.proofs.Marks.{plain_first}

-- what is left of a text, behind a backslash or not
unfoldable pub rest_of : Bool → List ℕ → Option (List ℕ)
rest_of false t = unescaped t
rest_of true [] = None
rest_of true (d ∷ t) = if is_escapable d then option_map (λ u. d ∷ u) (unescaped t) else None

abbrev pub stands : Bool → ℕ → Bool
stands e c = if e then is_escapable c else is_plain c

pub starts : (t : List ℕ) → rest_of false t ≡ unescaped t
unfolding rest_of
starts t = refl

pub stands_first : (e : Bool) (c : ℕ) (t : List ℕ) → stands e c ≡ true → rest_of e (c ∷ t) ≡ option_map (λ u. c ∷ u) (rest_of false t)
unfolding rest_of
stands_first false c t h = plain_first c t h
stands_first true c t h = rw h refl

behind_backslash : (u : List ℕ) → rest_of false (92 ∷ u) ≡ rest_of true u
unfolding rest_of unescaped
behind_backslash [] = refl
behind_backslash (d ∷ u) = refl

pub backslash_first : (e : Bool) (c : ℕ) (t : List ℕ) → e ≡ false → c ≡ 92 → rest_of e (c ∷ t) ≡ rest_of true t
unfolding rest_of
backslash_first e c t h g = ap (λ (b : Bool). rest_of b (c ∷ t)) h ∙ ap (λ (x : ℕ). rest_of false (x ∷ t)) g ∙ behind_backslash t

pub nothing_first : (e : Bool) (c : ℕ) (t : List ℕ) → stands e c ≡ false → (e ≡ false → (c == 92) ≡ false) → rest_of e (c ∷ t) ≡ None
unfolding rest_of unescaped
nothing_first true c t h g = rw h refl
nothing_first false c [] h g = rw h refl
nothing_first false c (d ∷ t) h g = rw (h, g refl) refl

then_more : (o : Option (List ℕ)) (done : List ℕ) (c : ℕ) → option_map (λ t. done ++ t) (option_map (λ t. c ∷ t) o) ≡ option_map (λ t. (done ++ c ∷ []) ++ t) o
then_more None done c = refl
then_more (Some t) done c = ap Some (sym (append_assoc done (c ∷ []) t))

-- a text is what was read and what is left
pub record Left (whole done : List ℕ) (e : Bool) (rest : List ℕ) : Type 0 where
  pub is : unescaped whole ≡ option_map (λ t. done ++ t) (rest_of e rest)

all_left : (o : Option (List ℕ)) → o ≡ option_map (λ t. t) o
all_left None = refl
all_left (Some t) = refl

pub left_whole : (whole : List ℕ) → Left whole [] false whole
unfolding rest_of
left_whole whole = record { is = all_left (unescaped whole) }

pub left_pushed : (whole done rest next : List ℕ) (e : Bool) (c : ℕ) → Left whole done e rest → rest ≡ c ∷ next → stands e c ≡ true → Left whole (done ++ c ∷ []) false next
left_pushed whole done rest next e c l r h = record {
  is = l.is ∙ ap (λ u. option_map (λ t. done ++ t) (rest_of e u)) r ∙ ap (option_map (λ t. done ++ t)) (stands_first e c next h) ∙ then_more (rest_of false next) done c;
}

pub left_escaped : (whole done rest next : List ℕ) (e : Bool) (c : ℕ) → Left whole done e rest → rest ≡ c ∷ next → e ≡ false → c ≡ 92 → Left whole done true next
left_escaped whole done rest next e c l r h g = record {
  is = l.is ∙ ap (λ u. option_map (λ t. done ++ t) (rest_of e u)) r ∙ ap (option_map (λ t. done ++ t)) (backslash_first e c next h g);
}

pub left_refused : (whole done rest next : List ℕ) (e : Bool) (c : ℕ) → Left whole done e rest → rest ≡ c ∷ next → stands e c ≡ false → (e ≡ false → (c == 92) ≡ false) → word whole ≡ None
left_refused whole done rest next e c l r h g =
    ap (option_and_then if_any) (l.is ∙ ap (λ u. option_map (λ t. done ++ t) (rest_of e u)) r ∙ ap (option_map (λ t. done ++ t)) (nothing_first e c next h g))

-- the end, behind a backslash or not
pub left_open : (whole done rest : List ℕ) (e : Bool) → Left whole done e rest → rest ≡ [] → e ≡ true → word whole ≡ None
unfolding rest_of
left_open whole done rest e l r h =
    ap (option_and_then if_any) (l.is ∙ ap (λ u. option_map (λ t. done ++ t) (rest_of e u)) r ∙ ap (λ (b : Bool). option_map (λ t. done ++ t) (rest_of b [])) h)

pub left_done : (whole done rest : List ℕ) (e : Bool) → Left whole done e rest → rest ≡ [] → e ≡ false → word whole ≡ if_any done
unfolding rest_of unescaped
left_done whole done rest e l r h =
    ap (option_and_then if_any) (l.is ∙ ap (λ u. option_map (λ t. done ++ t) (rest_of e u)) r ∙ ap (λ (b : Bool). option_map (λ t. done ++ t) (rest_of b [])) h ∙ ap Some (append-nil done))

pub stands_behind : (e s : Bool) (c : ℕ) → e ≡ true → s ≡ is_escapable c → s ≡ stands e c
stands_behind e s c h g = g ∙ ap (λ (b : Bool). stands b c) (sym h)

pub stands_bare : (e s : Bool) (c : ℕ) → e ≡ false → s ≡ is_plain c → s ≡ stands e c
stands_bare e s c h g = g ∙ ap (λ (b : Bool). stands b c) (sym h)

plain_ascii : (c : ℕ) → is_plain c ≡ true → c < 128
plain_ascii c h = grind (arith, nat_tests)

escapable_ascii : (c : ℕ) → is_escapable c ≡ true → c < 128
escapable_ascii c h = grind (arith, nat_tests)

pub stands_ascii : (e : Bool) (c : ℕ) → stands e c ≡ true → c < 128
stands_ascii true c h = escapable_ascii c h
stands_ascii false c h = plain_ascii c h

pub no_backslash : (c : ℕ) → (c ≡ 92 → ⊥) → (c == 92) ≡ false
no_backslash c n = by (c == 92) refl
  where
    by : (b : Bool) → (c == 92) ≡ b → b ≡ false
    by true is = absurd (n (eqb-true c 92 is))
    by false is = refl

pub none_of : (done : List ℕ) → length done ≡ 0 → if_any done ≡ None
none_of [] h = refl
none_of (x ∷ xs) h = absurd (omega arith)

pub some_of : (done : List ℕ) → (length done ≡ 0 → ⊥) → if_any done ≡ Some done
some_of [] h = absurd (h refl)
some_of (x ∷ xs) h = refl
