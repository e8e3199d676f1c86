-- What is left of a path's text.
use Rattle.std.specs.Prelude.{◌≡◌, ℕ, List, [], ◌∷◌, Option, Some, None}
use Rattle.std.specs.Borrow.{Bor}

-- the text behind a `/`, or nothing
abbrev pub text_left : Option (Bor (List ℕ)) → List ℕ
text_left None = []
text_left (Some t) = 47 ∷ t.now

-- neither empty nor begun by a `/`
pub record IsNoPath (t : List ℕ) : Type 0 where
  pub empty : t ≡ [] → ⊥
  pub slash : (rest : List ℕ) → t ≡ 47 ∷ rest → ⊥
