-- The lines of an input are those of its definition.
use Rattle.std.proofs.Common.{◌≡◌, ℕ, List, [], ◌∷◌, ◌++◌, ap, refl}
use Rattle.schema_definitions.specs.Lines.{ended}
use Rattle.line_cuts.specs.Cuts.{all_but_last, last_of, unless_empty}

pub ended_is : (ps : List (List ℕ)) → all_but_last ps ++ unless_empty (last_of ps) ≡ ended ps
ended_is [] = refl
ended_is ([] ∷ []) = refl
ended_is ((b ∷ line) ∷ []) = refl
ended_is ([] ∷ next ∷ lines) = ap (λ l. [] ∷ l) (ended_is (next ∷ lines))
ended_is ((b ∷ line) ∷ next ∷ lines) = ap (λ l. (b ∷ line) ∷ l) (ended_is (next ∷ lines))
