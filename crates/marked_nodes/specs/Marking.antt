-- Marks on nodes.
use Rattle.std.specs.Prelude.{◌≡◌, ℕ, ◌+◌, Bool, true, not, List, ◌++◌, Some, ◌⊎◌, length, count_by, slice_get}
use Rattle.schema_meaning.specs.Members.{In}

abbrev pub IsMarked : List Bool → ℕ → Type 0
IsMarked marks i = slice_get marks i ≡ Some true

-- how many nodes are not marked
abbrev pub unmarked : List Bool → ℕ
unmarked marks = count_by not marks

-- each of some nodes is marked, and those of them that were not wait behind the others
pub record Marks (nodes : List ℕ) (old new : List Bool) (waited waiting : List ℕ) : Type 0 where
  -- those that were not marked
  pub added : List ℕ
  pub behind : waiting ≡ waited ++ added
  pub among : (i : ℕ) → In i added → In i nodes
  pub marked : (i : ℕ) → In i nodes → IsMarked new i
  pub kept : (i : ℕ) → IsMarked old i → IsMarked new i
  pub only : (i : ℕ) → IsMarked new i → IsMarked old i ⊎ In i added
  pub as_many : length new ≡ length old
  pub fewer : unmarked new + length added ≡ unmarked old
