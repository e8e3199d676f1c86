-- The texts of paths that are put together.
use Rattle.std.proofs.Common.{◌≡◌, ◌∙◌, ◌++◌, List, [], ◌∷◌, refl, sym, ap, reverse, append_assoc}
use Rattle.std.proofs.lemmas.List.{reverse-append}
use Rattle.json_values.specs.Parts.{Part}
use Rattle.json_values.specs.Pointers.{part_text, pointer_text}
use Rattle.schema_definitions.specs.PathTexts.{path_text}

pointer_text-append : (xs ys : List Part) → pointer_text (xs ++ ys) ≡ pointer_text xs ++ pointer_text ys
pointer_text-append [] ys = refl
pointer_text-append (x ∷ xs) ys =
    ap (λ t. 47 ∷ (part_text x ++ t)) (pointer_text-append xs ys) ∙ ap (λ t. 47 ∷ t) (sym (append_assoc (part_text x) (pointer_text xs) (pointer_text ys)))

pub path_text-append : (xs ys : List Part) → path_text (xs ++ ys) ≡ path_text ys ++ path_text xs
path_text-append xs ys = ap pointer_text (reverse-append xs ys) ∙ pointer_text-append (reverse ys) (reverse xs)
