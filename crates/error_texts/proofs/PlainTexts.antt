-- Texts that stand for themselves in a JSON string.
use Rattle.std.proofs.Common.{◌≡◌, ◌==◌, ℕ, List, [], ◌∷◌, ◌++◌, true, refl, sym, ap, ◌∙◌, append_assoc}
use Rattle.std.proofs.lemmas.Bool.{and_parts, or_parts, not-true, eqb-false, ltb-false}
use Rattle.std.specs.List.{list_all}
use Rattle.json.specs.Print.{escape, quoted}
use Rattle.json.specs.Run.{is_plain, is_stop}
use Rattle.json.proofs.Printed.Strings.{escape_byte_plain}

escape-plain : (s : List ℕ) → list_all is_plain s ≡ true → escape s ≡ s
escape-plain [] h = refl
escape-plain (x ∷ xs) h =
    let parts = and_parts (is_plain x) _ h in
    let none = or_parts _ _ (not-true (is_stop x) parts.0) in
    let marks = or_parts (x == 34) _ none.0 in
    let rest = escape-plain xs parts.1 in
    λ i. escape_byte_plain x (eqb-false x 34 marks.0) (eqb-false x 92 marks.1) (ltb-false x 32 none.1) i ++ rest i

-- it stands between quotation marks
pub quoted-plain : (old s : List ℕ) → list_all is_plain s ≡ true → ((old ++ 34 ∷ []) ++ s) ++ 34 ∷ [] ≡ old ++ quoted s
quoted-plain old s h = regrouped old s ∙ ap (λ t. old ++ 34 ∷ (t ++ 34 ∷ [])) (sym (escape-plain s h))
  where
    regrouped : (t u : List ℕ) → ((t ++ 34 ∷ []) ++ u) ++ 34 ∷ [] ≡ t ++ 34 ∷ (u ++ 34 ∷ [])
    regrouped t u = simp append_assoc
