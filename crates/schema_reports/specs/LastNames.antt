-- Names at the ends of paths.
use Rattle.std.specs.Prelude.{ℕ, List, [], ◌∷◌}
use Rattle.json_values.specs.Parts.{Part, name, index}

-- the name at the end of a path, of which the last part comes first
abbrev pub last_name : List Part → List ℕ
last_name [] = []
last_name (name text ∷ path) = text
last_name (index n ∷ path) = []
