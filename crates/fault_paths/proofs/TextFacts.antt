-- What is left of texts, and texts compared.
use Rattle.std.proofs.Common.{◌≡◌, ◌∙◌, ◌++◌, ℕ, List, [], ◌∷◌, Bool, true, false, not, bytes_eq, Bor, Option, None, Some, refl, sym, ap}
use Rattle.std.proofs.lemmas.Slice.Eq.{bytes_eq-Decides}
use Rattle.certificate_laws.specs.Words.{IsRest, nothing, part}
use Rattle.fault_paths.specs.Texts.{text_left}

pub rest_left : (o : Option (Bor (List ℕ))) → IsRest (text_left o)
rest_left None = nothing
rest_left (Some t) = part

pub tail_is : (b : ℕ) (x y : List ℕ) → b ∷ x ≡ b ∷ y → x ≡ y
tail_is b x y e = cc

pub behind_same : (a x y : List ℕ) → a ++ x ≡ a ++ y → x ≡ y
behind_same [] x y e = e
behind_same (b ∷ a) x y e = behind_same a x y (tail_is b (a ++ x) (a ++ y) e)

pub no_part : (b : ℕ) (x : List ℕ) → b ∷ x ≡ [] → ⊥
no_part b x e = cc

-- ---- two texts, by whether they are compared as equal

pub apart_by : (a b : List ℕ) (r : Bool) → r ≡ not (bytes_eq a b) → r ≡ true → a ≡ b → ⊥
apart_by a b r is e same = let no : true ≡ false = sym e ∙ is ∙ ap not ((bytes_eq-Decides a b).1 same) in cc

pub same_by : (a b : List ℕ) (r : Bool) → r ≡ not (bytes_eq a b) → r ≡ false → a ≡ b
same_by a b r is e = (bytes_eq-Decides a b).0 (by (bytes_eq a b) (sym is ∙ e))
  where
    by : (c : Bool) → not c ≡ false → c ≡ true
    by true e = refl
    by false e = cc
