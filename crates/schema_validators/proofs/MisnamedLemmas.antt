-- Causes of what is misnamed, told one by one.
use Rattle.std.proofs.Common.{◌≡◌, ◌∙◌, ℕ, ◌+◌, ◌<◌, List, [], ◌∷◌, ◌++◌, length, get_or, take, map, ap, sym, subst, append-nil, append_assoc}
use Rattle.std.specs.List.{AllZip, flat_map}
use Rattle.std.proofs.lemmas.Grind.{flat_map-append}
use Rattle.std.proofs.lemmas.List.{take_more, map-append}
use Rattle.std.proofs.lemmas.Slice.Zip.{all_zipped_more}
use Rattle.reached_sites.specs.declared.cause.BuildCause.{BuildCause}
use Rattle.schema_validators.specs.Misnamed.{Misnamed, NamesMisnamed, Adds}

pub adds-one : (m : Misnamed) (c : BuildCause) (old : List BuildCause) → NamesMisnamed m c → Adds (m ∷ []) old (old ++ c ∷ [])
adds-one m c old names = λ found told. all_zipped_more NamesMisnamed found old m c told names

pub adds-both : (xs ys : List Misnamed) (a b c : List BuildCause) → Adds xs a b → Adds ys b c → Adds (xs ++ ys) a c
adds-both xs ys a b c first behind = λ found told.
    subst (λ l. AllZip NamesMisnamed l c) (append_assoc found xs ys) (behind (found ++ xs) (first found told))

-- what is told of one more item of a list
pub told-more : {X Y A : Type 0} (f : Y → List A) (g : X → Y) (xs : List X) (i : ℕ) (x : X) → i < length xs → x ≡ get_or xs i x
    → flat_map f (map g (take (i + 1) xs)) ≡ flat_map f (map g (take i xs)) ++ f (g x)
told-more f g xs i x within is =
    ap (λ ys. flat_map f (map g ys)) (take_more xs i x within ∙ ap (λ y. take i xs ++ y ∷ []) (sym is))
    ∙ ap (flat_map f) (map-append g (take i xs) (x ∷ []))
    ∙ flat_map-append f (map g (take i xs)) (g x ∷ [])
    ∙ ap (λ l. flat_map f (map g (take i xs)) ++ l) (append-nil (f (g x)))
