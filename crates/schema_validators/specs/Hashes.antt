-- JSON Pointers with `#` before them.
use Rattle.std.specs.Prelude.{ℕ, List, [], ◌∷◌, ◌==◌, if◌then◌else◌}

-- a text without the `#` before it, if there is one
abbrev pub without_hash : List ℕ → List ℕ
without_hash [] = []
without_hash (b ∷ text) = if b == 35 then text else b ∷ text
