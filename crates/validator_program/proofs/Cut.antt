-- Words cut in their turn.
use Rattle.std.proofs.Common.{◌≡◌, ◌<◌, ◌≤◌, ◌∙◌, ◌++◌, ℕ, suc, List, [], ◌∷◌, Some, ap, sym, subst, map, drop, length, drop-cons, drop_of_length-le, append-nil, append_assoc}
use Rattle.std.specs.List.{slice_index_or}
use Rattle.std.specs.Borrow.{Bor}
use Rattle.std.proofs.lemmas.List.{map-append}
use Rattle.uri_grammar.specs.Texts.{cut_at_last}
use Rattle.clap.specs.Walk.{texts}
use Rattle.validator_program.specs.Given.{AreCut, Pair, pair_of}
use Rattle.validator_program.specs.declared.documents.Further.{Further}

-- what those so far and any pairs for the rest come to
abbrev pub CutSoFar : List (Bor (List ℕ)) → ℕ → List Further → Type 0
CutSoFar words i fs = (rest : List Pair) → AreCut (texts (drop i words)) rest → AreCut (texts words) (map pair_of fs ++ rest)

pub cut_next : (words : List (Bor (List ℕ))) (i : ℕ) (d : Bor (List ℕ)) (fs : List Further) (f : Further) → i < length words
    → cut_at_last 61 (slice_index_or words i d).now ≡ (f.uri.now, Some f.file.now) → CutSoFar words i fs → CutSoFar words (suc i) (fs ++ f ∷ [])
cut_next words i d fs f within cut so_far = λ rest more.
    subst (AreCut (texts words)) (sym (ap (λ t. t ++ rest) (map-append pair_of fs (f ∷ [])) ∙ append_assoc (map pair_of fs) (pair_of f ∷ []) rest))
    (so_far (pair_of f ∷ rest) (subst (λ ws. AreCut (texts ws) (pair_of f ∷ rest)) (sym (drop-cons words i d within)) (cut, more)))

pub all_cut : (words : List (Bor (List ℕ))) (i : ℕ) (fs : List Further) → length words ≤ i → CutSoFar words i fs → AreCut (texts words) (map pair_of fs)
all_cut words i fs past so_far =
    subst (AreCut (texts words)) (append-nil (map pair_of fs)) (so_far [] (subst (λ ws. AreCut (texts ws) []) (sym (drop_of_length-le words past)) tt))
