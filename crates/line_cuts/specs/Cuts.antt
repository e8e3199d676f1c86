-- How bytes are cut into lines. A line end is the byte 10.
use Rattle.std.specs.Prelude.{ℕ, List, [], ◌∷◌, ◌++◌, ◌==◌, map}
use Rattle.std.specs.declared.alloc.Global.{Global}
use Rattle.std.specs.declared.vec.Vec.{Vec}
use Rattle.std.specs.List.{slice_split}

-- the texts between line ends
abbrev pub pieces : List ℕ → List (List ℕ)
pieces bytes = slice_split (λ b. b == 10) bytes

abbrev pub all_but_last : List (List ℕ) → List (List ℕ)
all_but_last [] = []
all_but_last (piece ∷ []) = []
all_but_last (piece ∷ next ∷ later) = piece ∷ all_but_last (next ∷ later)

abbrev pub last_of : List (List ℕ) → List ℕ
last_of [] = []
last_of (piece ∷ []) = piece
last_of (piece ∷ next ∷ later) = last_of (next ∷ later)

-- the lines that a line end ended
abbrev pub ended_in : List ℕ → List (List ℕ)
ended_in bytes = all_but_last (pieces bytes)

-- what stands behind the last line end
abbrev pub part_of : List ℕ → List ℕ
part_of bytes = last_of (pieces bytes)

abbrev pub unless_empty : List ℕ → List (List ℕ)
unless_empty [] = []
unless_empty (b ∷ line) = (b ∷ line) ∷ []

-- the lines of an input: those that a line end ended, and what stands behind the last one where it is not empty
abbrev pub lines_of : List ℕ → List (List ℕ)
lines_of input = ended_in input ++ unless_empty (part_of input)

-- the bytes of texts
abbrev pub bytes_of : List (Vec ℕ Global) → List (List ℕ)
bytes_of texts = map (λ v. v.items) texts
