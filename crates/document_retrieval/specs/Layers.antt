-- Layers of documents, by their numbers.
use Rattle.std.specs.Prelude.{ℕ, suc, [], ◌∷◌, max}
use Rattle.schema_definitions.specs.Bearers.{Documents}

-- the number of a layer above those of all the documents
abbrev pub layer_above : Documents → ℕ
layer_above [] = 0
layer_above (d ∷ ds) = max (suc d.layer) (layer_above ds)
