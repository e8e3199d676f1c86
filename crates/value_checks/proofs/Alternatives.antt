-- Words read one by one.
use Rattle.std.proofs.Common.{◌≡◌, ℕ, length, ◌<◌, ◌≤◌, List, [], ◌∷◌, ◌++◌, map, Option, Some, None, option_map, option_and_then, refl, sym, ap, ◌∙◌, append_assoc, append-nil, arith}
use Rattle.json_values.specs.Patterns.{word, words, if_several}

then_more : (o : Option (List (List ℕ))) (done : List (List ℕ)) (w : List ℕ) → option_map (λ ls. done ++ ls) (option_map (λ ls. w ∷ ls) o) ≡ option_map (λ ls. (done ++ w ∷ []) ++ ls) o
then_more None done w = refl
then_more (Some ls) done w = ap Some (sym (append_assoc done (w ∷ []) ls))

all_left : (o : Option (List (List ℕ))) → o ≡ option_map (λ ls. ls) o
all_left None = refl
all_left (Some ls) = refl

-- the words of a list are those that were read and those of what is left
pub record WordsLeft (whole done rest : List (List ℕ)) : Type 0 where
  pub is : words whole ≡ option_map (λ ls. done ++ ls) (words rest)

pub words_whole : (whole : List (List ℕ)) → WordsLeft whole [] whole
words_whole whole = record { is = all_left (words whole) }

pub words_pushed : (whole done rest next : List (List ℕ)) (p w : List ℕ) → WordsLeft whole done rest → rest ≡ p ∷ next → word p ≡ Some w → WordsLeft whole (done ++ w ∷ []) next
words_pushed whole done rest next p w l r h = record {
  is = l.is ∙ ap (λ ps. option_map (λ ls. done ++ ls) (words ps)) r
      ∙ ap (λ o. option_map (λ ls. done ++ ls) (option_and_then (λ x. option_map (λ ls. x ∷ ls) (words next)) o)) h
      ∙ then_more (words next) done w;
}

pub words_refused : (whole done rest next : List (List ℕ)) (p : List ℕ) → WordsLeft whole done rest → rest ≡ p ∷ next → word p ≡ None → words whole ≡ None
words_refused whole done rest next p l r h =
    l.is ∙ ap (λ ps. option_map (λ ls. done ++ ls) (words ps)) r
    ∙ ap (λ o. option_map (λ ls. done ++ ls) (option_and_then (λ x. option_map (λ ls. x ∷ ls) (words next)) o)) h

pub words_done : (whole done rest : List (List ℕ)) → WordsLeft whole done rest → rest ≡ [] → words whole ≡ Some done
words_done whole done rest l r = l.is ∙ ap (λ ps. option_map (λ ls. done ++ ls) (words ps)) r ∙ ap Some (append-nil done)

pub several : (ls : List (List ℕ)) → 2 ≤ length ls → if_several ls ≡ Some ls
several [] h = absurd (omega arith)
several (l ∷ []) h = absurd (omega arith)
several (l ∷ m ∷ ls) h = refl

pub too_few : (ls : List (List ℕ)) → length ls < 2 → if_several ls ≡ None
too_few [] h = refl
too_few (l ∷ []) h = refl
too_few (l ∷ m ∷ ls) h = absurd (omega arith)

pub map_pushed : {X Y : Type 0} (f : X → Y) (xs : List X) (x : X) → map f (xs ++ x ∷ []) ≡ map f xs ++ f x ∷ []
map_pushed f [] x = refl
map_pushed f (y ∷ xs) x = ap (λ ys. f y ∷ ys) (map_pushed f xs x)
