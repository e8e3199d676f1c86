-- A path in a JSON document, from the root on: the names of members and the indexes of items.
use Rattle.std.specs.Prelude.{ℕ, List}

pub data Part : Type 0 where
  name : List ℕ → Part
  index : ℕ → Part
