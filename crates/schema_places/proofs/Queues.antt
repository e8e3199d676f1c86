-- A queue to which the children of each that is taken are put behind.
use Rattle.std.proofs.Common.{◌≡◌, ◌∙◌, ◌<◌, ◌≤◌, ◌+◌, ℕ, suc, List, [], ◌∷◌, ◌++◌, sym, ap, arith, length, take, drop, get_or}
use Rattle.std.specs.List.{flat_map, sum_by}
use Rattle.std.proofs.lemmas.List.{take_more, drop_more, take_all, take-append-le, drop-append-le, flat_map_more}
use Rattle.std.proofs.lemmas.List.Sums.{sum_by-append, sum_by-cons}
use Rattle.schema_definitions.specs.Words.{levels}
use Rattle.schema_places.proofs.Levels.{Falls, by_levels}

-- children together have less size
pub record Shrinks (P : Type 0) (children : P → List P) (size : P → ℕ) : Type 0 where
  pub less : (p : P) → sum_by size (children p) < size p

module _ (P : Type 0) (children : P → List P) where
  -- one more is taken
  pub taken : (first xs ys : List P) (i : ℕ) (d : P) → i < length xs → ys ≡ xs ++ children (get_or xs i d)
      → xs ≡ first ++ flat_map children (take i xs) → ys ≡ first ++ flat_map children (take (i + 1) ys)
  taken first xs ys i d within made queue =
      let p = get_or xs i d in
      let front : take (i + 1) ys ≡ take i xs ++ p ∷ [] = ap (take (i + 1)) made ∙ take-append-le (i + 1) xs (children p) (omega arith) ∙ take_more xs i d within in
      made ∙ ap (λ l. l ++ children p) queue ∙ flat_map_more children first (take i xs) p ∙ ap (λ l. first ++ flat_map children l) (sym front)

  -- what is left is smaller
  pub smaller : (size : P → ℕ) → Shrinks P children size → (xs ys : List P) (i : ℕ) (d : P) → i < length xs → ys ≡ xs ++ children (get_or xs i d)
      → sum_by size (drop (i + 1) ys) < sum_by size (drop i xs)
  smaller size shrinks xs ys i d within made =
      let p = get_or xs i d in
      let after : sum_by size (drop (i + 1) ys) ≡ sum_by size (drop (i + 1) xs) + sum_by size (children p) =
      ap (λ l. sum_by size (drop (i + 1) l)) made ∙ ap (sum_by size) (drop-append-le (i + 1) xs (children p) (omega arith)) ∙ sum_by-append size (drop (i + 1) xs) (children p) in
      let before : sum_by size (drop i xs) ≡ size p + sum_by size (drop (i + 1) xs) = ap (sum_by size) (drop_more xs i d within) ∙ sum_by-cons size p (drop (i + 1) xs) in
      omega (arith, after, before, shrinks.less p)

  -- in the end the queue goes by levels
  pub all_taken : (height : P → ℕ) → Falls P children height → (root : P) (xs : List P) (i : ℕ) → length xs ≤ i
      → xs ≡ (root ∷ []) ++ flat_map children (take i xs) → xs ≡ levels children (suc (height root)) (root ∷ [])
  all_taken height falls root xs i done queue =
      by_levels P children height falls (suc (height root)) (root ∷ []) xs (omega arith, tt) (queue ∙ ap (λ l. (root ∷ []) ++ flat_map children l) (take_all i xs done))
