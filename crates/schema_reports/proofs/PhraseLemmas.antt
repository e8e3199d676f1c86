-- Texts that are cut, and texts of phrases one after another.
use Rattle.std.proofs.Common.{◌≡◌, ◌∙◌, ℕ, ◌-◌, ◌+◌, ◌<◌, List, ◌++◌, map, length, get_or, drop, refl, sym, ap, subst, append_assoc, append-nil, arith}
use Rattle.std.specs.Fmt.{padded, take_chars, char_count, format_spec}
use Rattle.std.proofs.lemmas.List.{drop_more}
use Rattle.schema_reports.specs.Phrases.{Phrase, IsSpelled, AreSpelled}

-- a text cut to some characters, with no width
pub cut_to : (n : ℕ) (text : List ℕ) → padded (format_spec 32 0 0 0 n) text ≡ take_chars n text
unfolding padded
cut_to n text = let none : 0 - char_count (take_chars n text) ≡ 0 = omega arith in rw none (append-nil (take_chars n text))

-- a phrase more is spelled, and those behind it are still to come
pub spelled_on : {X : Type 0} (said : X → Phrase) (xs : List X) (i : ℕ) (d : X) (text spelling longer : List ℕ) → i < length xs
    → ((rest : List ℕ) → AreSpelled (map said (drop i xs)) rest → AreSpelled (map said xs) (text ++ rest))
    → IsSpelled (said (get_or xs i d)) spelling → longer ≡ text ++ spelling
    → (rest : List ℕ) → AreSpelled (map said (drop (i + 1) xs)) rest → AreSpelled (map said xs) (longer ++ rest)
spelled_on said xs i d text spelling longer within before one e rest spells =
    let next : AreSpelled (map said (drop i xs)) (spelling ++ rest) =
    subst (λ ys. AreSpelled (map said ys) (spelling ++ rest)) (sym (drop_more xs i d within)) (spelling, rest, one, spells, refl) in
    subst (AreSpelled (map said xs)) (sym (append_assoc text spelling rest) ∙ ap (λ t. t ++ rest) (sym e)) (before (spelling ++ rest) next)
